pub mod Line
pub mod Internal
