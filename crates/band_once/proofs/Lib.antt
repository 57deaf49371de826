pub mod Claims
mod Idle
mod Lazy
