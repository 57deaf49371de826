mod Generations
mod Standing
