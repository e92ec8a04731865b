pub mod Items
pub mod ListSteps
pub mod ListBytes
pub mod Positions
pub mod Words
pub mod WordsFit
