-- Definitions that private contracts and proofs alone name.
pub mod Steps
pub mod Unfound
pub mod Marking
pub mod ArenaCopy
