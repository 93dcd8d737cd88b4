-- Definitions that private contracts and proofs alone name.
pub mod Bundle
pub mod DecodeCache
pub mod Performed
pub mod Quick
pub mod QuickUnmarked
pub mod Step
pub mod Until
