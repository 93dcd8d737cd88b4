pub mod Consistent
pub mod Numbers
