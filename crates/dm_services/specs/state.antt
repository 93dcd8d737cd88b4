pub mod State
pub mod inner
