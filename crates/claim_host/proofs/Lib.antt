-- The calls that a host links, proved.
pub mod Says
pub mod Linked
