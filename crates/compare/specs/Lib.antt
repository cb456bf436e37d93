-- The model of a search's comparison.
pub mod Compare
