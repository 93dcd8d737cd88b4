pub mod Description
pub mod Monitor
pub mod Replies
pub mod Checking
pub mod Servers
pub mod Connections
pub mod inner
