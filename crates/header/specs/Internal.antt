-- Definitions that only internal contracts cite: nobody needs to believe them.
pub mod Counts
pub mod Lent
pub mod Outcomes
