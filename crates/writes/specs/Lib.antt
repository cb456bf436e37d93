-- What the functions of the writes promise one another.
pub mod Writes
