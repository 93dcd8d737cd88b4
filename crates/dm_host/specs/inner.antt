-- Definitions that private contracts and proofs alone name.
pub mod Setups
pub mod Loading
pub mod Answers
pub mod Checking
