pub mod Granted
pub mod Linked
pub mod Moving
pub mod Parts
pub mod Serving
pub mod Closing
