pub mod Decimals
pub mod Verdicts
pub mod Texts
pub mod Shown
