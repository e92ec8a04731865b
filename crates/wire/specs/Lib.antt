pub mod Wire
pub mod Words
pub mod Fits
pub mod Items
