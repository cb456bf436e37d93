-- What is claimed, proved: bytes, then soundness.
pub mod Bytes
pub mod Turns
pub mod Words
pub mod Tracks
pub mod Soundness
