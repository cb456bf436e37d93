-- What is claimed of one command on its track: of damage, and of what a write leaves.
pub mod Damage
pub mod Lasting
