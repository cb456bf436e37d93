-- Laws of the hunt.
pub mod Laws
pub mod Inside
