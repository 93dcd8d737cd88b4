pub mod packets
pub mod commands
pub mod Arguments
pub mod Names
pub mod Requests
