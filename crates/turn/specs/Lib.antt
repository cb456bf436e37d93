-- What a command does, as one value.
pub mod Turn
