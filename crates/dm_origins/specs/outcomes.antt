pub mod Calls
pub mod Courses
