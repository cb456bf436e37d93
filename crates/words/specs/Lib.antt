-- The model of the channel's words.
pub mod Words
