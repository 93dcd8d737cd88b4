mod Bytes
mod Loaded
mod Results
mod Told
pub mod Unseen
mod Segments
