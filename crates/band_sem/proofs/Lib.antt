pub mod Bridge
pub mod Held
pub mod Like
pub mod Own
pub mod Requests
pub mod Slots
pub mod Visits
pub mod Whole
mod Lawful
pub mod Laws
