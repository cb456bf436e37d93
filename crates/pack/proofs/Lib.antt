-- Laws of the pack.
pub mod Laws
pub mod Seeks
