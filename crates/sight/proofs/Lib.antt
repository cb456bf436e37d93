-- Laws of what a command reads.
pub mod Laws
