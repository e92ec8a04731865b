pub mod Content
pub mod Limits
pub mod Bytes
pub mod Words
pub mod Fits
pub mod Internal
