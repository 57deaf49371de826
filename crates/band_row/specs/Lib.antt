pub mod Row
pub mod Kept
