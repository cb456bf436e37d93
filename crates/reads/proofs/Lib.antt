-- Laws of the reads.
pub mod Laws
pub mod Sight
