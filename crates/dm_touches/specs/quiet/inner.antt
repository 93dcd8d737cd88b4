-- Definitions that private contracts and proofs alone name.
pub mod Home
pub mod Touch
