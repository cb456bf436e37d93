-- Laws of soundly written tracks.
pub mod Test
pub mod Tracks
pub mod Full
