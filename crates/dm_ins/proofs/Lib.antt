pub mod TableRules
pub mod Walks
mod Demands
mod Least
mod Order
mod KeptPrefixes
mod Sound
mod Templates
mod NoneLeftOut
pub mod Shortest
pub mod Preferred
