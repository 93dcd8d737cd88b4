pub mod Places
pub mod Operands
pub mod Written
mod Firsts
