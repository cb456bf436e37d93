-- What is claimed of the calls that a host links, over lent bytes.
pub mod Linked
