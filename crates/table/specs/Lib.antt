-- The commands, a row each.
pub mod Table
