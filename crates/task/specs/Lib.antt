-- What the functions inside the crate promise one another.
pub mod Inside
