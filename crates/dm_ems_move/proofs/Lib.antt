pub mod Pairs
pub mod Shown
pub mod Keeping
pub mod Leaving
pub mod Coming
pub mod Regions
