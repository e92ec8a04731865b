pub mod Returned
pub mod Filled
pub mod Internal
