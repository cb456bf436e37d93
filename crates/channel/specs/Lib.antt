-- The model of the channel about a command.
pub mod Channel
pub mod Inside
