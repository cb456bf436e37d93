-- The model of the Unit Check table.
pub mod Rows
