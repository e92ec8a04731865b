pub mod Segments
pub mod Goes
pub mod Internal
