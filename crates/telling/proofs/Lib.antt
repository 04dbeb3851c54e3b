mod Putting
mod Shelved
