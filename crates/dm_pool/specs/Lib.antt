pub mod Blocks
pub mod FreeList
pub mod Gaps
pub mod Stored
pub mod Lending
pub mod Parts
pub mod Laws
pub mod inner
