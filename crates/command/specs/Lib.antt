-- The one way that every command goes, and the words in which it is said what it sees of a cylinder.
pub mod Command
pub mod Frame
