-- The model of the held state.
pub mod Held
