mod Readings
pub mod Templates
pub mod One
mod Known
pub mod Own
pub mod Sizes
mod Alike
mod Places
mod Lengths
pub mod StandIns
