-- What is kept inside, and what its steps tell. No clause of a public call cites it.
pub mod Begun
pub mod Plays
pub mod Rule
pub mod Seats
pub mod Waits
