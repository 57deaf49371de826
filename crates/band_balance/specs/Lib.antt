pub mod Line
pub mod Settled
pub mod Object
pub mod Rule
pub mod Laws
