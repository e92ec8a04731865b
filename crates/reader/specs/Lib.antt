pub mod Frame
pub mod Internal
