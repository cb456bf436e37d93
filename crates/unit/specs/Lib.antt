-- What the unit asks of its callers.
pub mod Unit
