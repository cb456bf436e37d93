-- The model of what is exported.
pub mod Calls
