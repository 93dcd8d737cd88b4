pub mod quiet
pub mod Elements
pub mod Access
pub mod Touches
pub mod Found
pub mod Laws
