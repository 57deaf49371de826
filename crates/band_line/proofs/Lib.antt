mod ArenaLemmas
mod ArenaMaps
mod Chains
pub mod Leaving
mod LineLemmas
mod Linking
mod NodeValues
mod SoundArena
pub mod WaitListLemmas
