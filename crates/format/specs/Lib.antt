-- The model of what a write lays on a track.
pub mod Format
