-- Where the field of a search lies.
pub mod Field
