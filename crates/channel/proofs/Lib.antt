-- Laws of the channel about a command.
pub mod Laws
pub mod Parts
pub mod Turns
