-- What is claimed, proved: reading back, then the loop that comes to a record.
pub mod Counts
pub mod Plans
pub mod Given
pub mod Left
pub mod After
pub mod Again
pub mod Lost
pub mod Back
pub mod There
pub mod FoundWalk
pub mod FoundWord
pub mod FoundMet
pub mod Found
pub mod Example
