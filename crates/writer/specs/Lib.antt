pub mod Write
pub mod Internal
