mod Carries
mod Signs
mod ByWidth
pub mod Unshifted
mod Addresses
pub mod Turns
pub mod Digits
mod Lowered
mod Rights
mod Remainders
mod Beyond
mod Spots
