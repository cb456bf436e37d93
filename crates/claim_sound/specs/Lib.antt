-- What is claimed of a pack from chain to chain: bytes stay bytes, and soundness lasts.
pub mod Soundness
