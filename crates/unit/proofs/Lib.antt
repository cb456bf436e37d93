-- Laws of the unit.
pub mod Laws
