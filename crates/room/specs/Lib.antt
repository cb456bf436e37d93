-- The model of room left.
pub mod Room
