pub mod extended
pub mod expanded
pub mod Multiplex
pub mod Drivers
pub mod Laws
