-- Definitions that private contracts and proofs alone name.
pub mod Watching
pub mod Nearby
pub mod Marking
