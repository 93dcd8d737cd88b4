mod Writing
mod Bytes
mod Made
mod Whole
mod Placing
pub mod OneAnswer
pub mod Unseen
pub mod Loaded
