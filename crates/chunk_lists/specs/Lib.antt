pub mod Parsed
pub mod Lists
pub mod Words
pub mod Internal
