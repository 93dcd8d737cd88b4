-- Definitions that private contracts and proofs alone name.
pub mod Checking
pub mod Debugging
pub mod Faults
pub mod Names
pub mod Program
pub mod Serving
pub mod Starting
pub mod Statuses
