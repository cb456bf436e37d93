-- The model of what the host hears.
pub mod Host
