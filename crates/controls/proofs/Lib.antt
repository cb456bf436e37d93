-- The law of Space Record.
pub mod Laws
