pub mod Sums
pub mod Escaping
pub mod Streaming
pub mod Framing
