pub mod Clock
pub mod Device
pub mod Failing
pub mod Polled
pub mod WakeLine
