-- Laws of where a command works.
pub mod Laws
