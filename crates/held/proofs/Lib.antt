-- Laws of the held state's bytes.
pub mod Laws
pub mod Inverse
