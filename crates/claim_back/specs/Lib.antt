-- What is claimed of the box when it reads again what it wrote, and of the loop by which a host comes to a record.
pub mod Back
pub mod Found
pub mod Example
