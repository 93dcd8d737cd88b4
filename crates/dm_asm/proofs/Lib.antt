pub mod Ends
pub mod Chosen
pub mod Found
pub mod Placed
pub mod Each
pub mod Stated
pub mod Passes
pub mod OneAnswer
pub mod Listed
pub mod Spelled
mod Anywhere
mod Remembered
