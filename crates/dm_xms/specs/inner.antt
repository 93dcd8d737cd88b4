-- Definitions that private contracts and proofs alone name.
pub mod Sides
pub mod Tables
pub mod Walks
pub mod Laws
pub mod Consistent
pub mod Outside
pub mod Coming
