pub mod Entered
pub mod Traced
pub mod Performed
mod OneAnswer
pub mod Distinct
