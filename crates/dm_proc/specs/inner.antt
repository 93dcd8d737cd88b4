-- Definitions that private contracts and proofs alone name.
pub mod Environment
pub mod Placed
pub mod Processes
