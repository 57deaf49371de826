mod Parties
mod Standing
mod Turns
