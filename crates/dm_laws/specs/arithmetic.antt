pub mod Decimal
pub mod Products
pub mod Shifts
pub mod Numbers
