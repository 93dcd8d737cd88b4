mod Again
pub mod Found
pub mod Exact
pub mod Decoded
pub mod Named
pub mod Pieces
pub mod Parted
mod Stripped
