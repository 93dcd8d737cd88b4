pub mod Edits
pub mod Becomes
pub mod Timelines
pub mod Branches
pub mod Laws
pub mod inner
