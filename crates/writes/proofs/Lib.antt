-- Laws of the writes.
pub mod Laws
pub mod Calls
pub mod Report
pub mod Rows
