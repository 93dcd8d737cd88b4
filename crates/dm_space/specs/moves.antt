pub mod Spans
pub mod Overlaps
pub mod Laws
pub mod Buffers
pub mod inner
