pub mod PartialLine
pub mod Moves
pub mod Rows
