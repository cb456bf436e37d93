-- Laws of lists and cells.
pub mod Laws
pub mod Marks
pub mod Numbers
pub mod Tests
pub mod Every
