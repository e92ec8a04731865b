pub mod Starts
pub mod Kept
pub mod AnyOrder
