pub mod Adjustments
pub mod Bitwise
pub mod Flags
pub mod Products
pub mod Shifts
pub mod Sums
pub mod Width
pub mod inner
