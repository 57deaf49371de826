pub mod Calls
pub mod Cell
pub mod CellLends
pub mod Claims
pub mod Idle
pub mod Lazy
pub mod Once
