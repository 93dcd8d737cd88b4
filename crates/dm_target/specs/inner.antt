-- Definitions that private contracts and proofs alone name.
pub mod Looking
pub mod Surveying
