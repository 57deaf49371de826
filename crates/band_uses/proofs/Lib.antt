mod PlayLemmas
mod RunLemmas
