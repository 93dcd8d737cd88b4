pub mod Lexed
pub mod Parts
pub mod Printed
pub mod OwnTerms
pub mod Named
pub mod Again
pub mod Stated
pub mod InTable
pub mod TextRead
pub mod Data
pub mod Fitting
mod Reserved
mod ReservedPairs
