mod Resting
mod Chaining
mod OneAnswer
