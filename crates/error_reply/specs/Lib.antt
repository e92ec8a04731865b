pub mod Reply
pub mod Meant
pub mod Internal
