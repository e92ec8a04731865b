pub mod Ledger
pub mod Conditions
pub mod History
pub mod Internal
