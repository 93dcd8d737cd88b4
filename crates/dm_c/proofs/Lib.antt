pub mod Looses
pub mod Insides
pub mod Taken
