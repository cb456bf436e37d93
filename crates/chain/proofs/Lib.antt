-- Laws of a chain.
pub mod Fits
pub mod Left
pub mod Pack
pub mod Legal
pub mod Runs
pub mod Laws
pub mod Strokes
