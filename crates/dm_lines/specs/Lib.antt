pub mod Words
pub mod Tokens
pub mod Operands
pub mod Statements
pub mod Placing
pub mod Own
pub mod Laws
pub mod inner
