pub mod Copies
pub mod Replays
