-- What every other crate's model is written with.
pub mod Cells
