-- Definitions that private contracts and proofs alone name.
pub mod Fields
pub mod Low
pub mod Occupied
pub mod Reading
pub mod Standing
pub mod Telling
