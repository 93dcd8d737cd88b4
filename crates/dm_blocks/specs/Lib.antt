pub mod Chain
pub mod Listing
pub mod Laws
pub mod Reading
pub mod inner
