pub mod Batons
pub mod Condvar
pub mod Kept
pub mod Waits
