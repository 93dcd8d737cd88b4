pub mod Footprints
pub mod Runs
pub mod Steps
