-- The model of the HOUSE check.
pub mod Check
pub mod Table
pub mod Fold
