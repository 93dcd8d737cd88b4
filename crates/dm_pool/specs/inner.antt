-- Definitions that private contracts and proofs alone name.
pub mod FreeList
pub mod Gaps
pub mod Order
pub mod Parts
pub mod Stored
