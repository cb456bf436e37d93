-- What is reported at a command's end.
pub mod Ending
