pub mod WellFormed
pub mod Repetitions
pub mod Stack
pub mod Decimals
