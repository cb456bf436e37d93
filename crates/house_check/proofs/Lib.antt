-- Laws of the check.
pub mod Xor
pub mod Step
pub mod Window
pub mod Bits
pub mod Remainder
pub mod Burst
pub mod Linear
pub mod Sharp
pub mod Cells
pub mod Below
pub mod Powers
pub mod Folding
pub mod Words
pub mod Table
