-- Laws of areas.
pub mod Laws
