-- What is kept inside, and what it stands for. No clause of a public call cites it.
pub mod Queue
pub mod Stage
