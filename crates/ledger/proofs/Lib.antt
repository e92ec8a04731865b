pub mod Xids
pub mod Scans
pub mod Searching
pub mod Steps
pub mod History
pub mod Conditions
pub mod Places
