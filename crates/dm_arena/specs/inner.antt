-- Definitions that private contracts and proofs alone name.
pub mod Blocks
pub mod Pair
pub mod Standing
pub mod Survey
pub mod Walks
pub mod Unseen
