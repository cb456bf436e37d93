-- The model of a soundly written track.
pub mod Sound
pub mod Test
pub mod Tracks
