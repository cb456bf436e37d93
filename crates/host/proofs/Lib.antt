-- Laws of what the host hears.
pub mod Laws
pub mod Cut
pub mod Tells
