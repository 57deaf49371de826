pub mod Kept
pub mod Manager
pub mod Status
pub mod Store
