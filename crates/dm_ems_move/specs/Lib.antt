pub mod Steps
pub mod Reallocation
pub mod Many
pub mod Maps
pub mod RegionMoves
pub mod inner
