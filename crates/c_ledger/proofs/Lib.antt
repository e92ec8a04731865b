pub mod Clauses
pub mod Promised
