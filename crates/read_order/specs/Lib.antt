pub mod ReadOrder
pub mod SortedOf
pub mod Internal
