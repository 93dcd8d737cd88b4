-- Definitions that private contracts and proofs alone name.
pub mod EightBytes
pub mod Memory
pub mod Places
pub mod Shifts
pub mod SideBySide
pub mod Stretches
