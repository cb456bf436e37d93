-- Laws of room left.
pub mod Laws
