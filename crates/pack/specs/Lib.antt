-- The model of a pack.
pub mod Pack
