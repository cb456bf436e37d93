-- Laws of the table.
pub mod Laws
