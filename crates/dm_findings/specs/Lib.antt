pub mod processes
pub mod Calls
pub mod Findings
pub mod Repeats
pub mod Report
pub mod Sites
pub mod inner
