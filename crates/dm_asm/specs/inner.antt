-- Definitions that private contracts and proofs alone name.
pub mod Fixed
pub mod Kept
pub mod Lines
