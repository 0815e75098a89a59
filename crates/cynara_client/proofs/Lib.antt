mod Replying
mod Hearing
mod Tries
mod Once
mod Putting
