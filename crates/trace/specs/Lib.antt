pub mod Report
pub mod Feeding
pub mod Session
pub mod Frames
pub mod Examples
pub mod Internal
