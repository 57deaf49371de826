pub mod Registration
pub mod WaitSet
