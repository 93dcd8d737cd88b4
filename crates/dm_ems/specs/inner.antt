-- Definitions that private contracts and proofs alone name.
pub mod Tables
pub mod Laws
pub mod Consistent
pub mod Outside
