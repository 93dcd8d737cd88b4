pub mod Step
pub mod Run
pub mod Start
pub mod Laws
pub mod Until
pub mod Unmarked
pub mod Near
pub mod inner
