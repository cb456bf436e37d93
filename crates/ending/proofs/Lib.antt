-- Laws of a command's end.
pub mod Laws
