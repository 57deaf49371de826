pub mod Decoding
pub mod FrontLemmas
pub mod Fronts
pub mod GrammarLemmas
pub mod Lengths
pub mod NameLemmas
pub mod NumberLemmas
pub mod WordLemmas
