-- Laws of the calls.
pub mod Laws
