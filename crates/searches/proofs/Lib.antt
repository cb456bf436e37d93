-- Laws of the searches.
pub mod Fields
pub mod Report
