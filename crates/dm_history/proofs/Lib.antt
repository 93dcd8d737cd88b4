mod Counts
pub mod Leading
pub mod Runs
pub mod OneState
pub mod Walks
mod Replaying
mod Keeping
mod Writing
mod Lists
mod Going
mod Order
mod Nears
mod Branching
