pub mod Stack
pub mod Arithmetic
pub mod Shifts
pub mod Products
pub mod Adjustments
pub mod Pairs
pub mod inner
