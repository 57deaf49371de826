-- What private functions say, and how a name is kept. No clause of a public call cites it.
pub mod Forms
pub mod Reading
pub mod Stored
