pub mod Statuses
pub mod Calls
pub mod Machines
pub mod Events
pub mod Lists
