pub mod Registers
pub mod Table
pub mod Spelling
pub mod Ins
pub mod Order
pub mod Walks
pub mod Preferred
pub mod inner
