pub mod Halts
pub mod Unseen
pub mod Map
mod ByWidth
mod Upwards
mod Pairs
mod Upper
mod Elements
mod InStretch
mod Stretched
