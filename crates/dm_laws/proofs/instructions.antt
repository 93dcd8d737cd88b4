pub mod Values
pub mod Operands
pub mod Effects
pub mod Spelled
pub mod Repeated
pub mod Popped
pub mod Decimals
