-- Definitions that private contracts and proofs alone name.
pub mod Operands
pub mod Words
