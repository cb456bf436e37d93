-- The model of the hunt for a record.
pub mod Hunt
