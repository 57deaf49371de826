mod Batons
pub mod Here
mod Order
mod Queues
mod Requests
mod While
