-- Laws of the comparison.
pub mod Laws
