-- Laws of what is recorded.
pub mod Laws
pub mod Written
