-- Laws of what a write lays.
pub mod Laws
pub mod Calls
