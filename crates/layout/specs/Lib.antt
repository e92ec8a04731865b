pub mod Places
pub mod Layout
pub mod Once
pub mod Internal
