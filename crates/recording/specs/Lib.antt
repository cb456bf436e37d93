-- The model of what is recorded.
pub mod Recording
