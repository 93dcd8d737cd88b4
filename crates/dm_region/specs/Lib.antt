pub mod Ends
pub mod Holes
pub mod Parts
pub mod inner
