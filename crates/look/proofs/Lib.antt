-- Laws of a look at a track.
pub mod Laws
