mod Texts
mod Stores
mod Keeping
mod Calls
mod Endings
pub mod Reading
pub mod OneAnswer
mod UnseenParts
mod ConsoleUnseen
pub mod Unseen
pub mod Rooms
pub mod MapParts
pub mod Map
