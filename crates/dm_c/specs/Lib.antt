pub mod calls
pub mod Held
pub mod Statuses
pub mod Endings
pub mod Handles
pub mod Texts
pub mod inner
