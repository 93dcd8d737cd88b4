pub mod Blocks
pub mod Allocation
pub mod Owned
pub mod Pair
pub mod Linking
pub mod Laws
pub mod inner
