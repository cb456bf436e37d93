-- Laws of the commands: the plans that there are, what is laid and moved; what a command sees of a cylinder, and what it keeps to.
pub mod Planned
pub mod Plans
pub mod Pieces
pub mod Comes
pub mod Seen
pub mod Acts
pub mod Turns
pub mod Kept
pub mod Broken
pub mod Here
