pub mod States
pub mod Planned
pub mod Runs
pub mod Keeping
pub mod Closing
pub mod Waking
pub mod Turns
pub mod Written
