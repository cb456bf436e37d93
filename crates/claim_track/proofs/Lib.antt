-- What is claimed, proved: of damage, then of what the writes leave.
pub mod Areas
pub mod Hurts
pub mod Struck
pub mod Same
pub mod New
pub mod Format
pub mod Over
pub mod Update
pub mod Works
pub mod Commands
