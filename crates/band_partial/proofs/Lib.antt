pub mod Nodes
pub mod Distributes
pub mod Follows
pub mod Fronts
pub mod Steps
pub mod Order
pub mod Ending
