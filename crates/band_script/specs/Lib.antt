pub mod Call
pub mod Grammar
pub mod Inner
pub mod Name
pub mod Number
pub mod Rows
