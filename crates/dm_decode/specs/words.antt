pub mod Words
pub mod Own
pub mod StandIns
pub mod Laws
pub mod inner
