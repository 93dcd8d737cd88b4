-- Definitions that private contracts and proofs alone name.
pub mod Lends
pub mod Ownership
pub mod Places
pub mod Region
