-- The model of what lies on a track.
pub mod Areas
pub mod Parts
