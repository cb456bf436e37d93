-- The model of a look at a track.
pub mod Look
