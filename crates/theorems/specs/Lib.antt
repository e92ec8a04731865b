pub mod Message
pub mod Calls
pub mod Tally
pub mod Cuts
pub mod Reserved
pub mod Demands
pub mod Exports
pub mod Examples
