-- Definitions that private contracts and proofs alone name.
pub mod Chunks
pub mod Freed
