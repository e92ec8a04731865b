pub mod Arises
pub mod StateChecks
pub mod Pieces
pub mod Kept
pub mod Goes
