pub mod Rising
pub mod Sorting
pub mod Passes
pub mod Places
