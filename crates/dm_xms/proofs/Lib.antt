pub mod Bases
pub mod Gaps
pub mod Rising
pub mod Consistent
pub mod Leaving
pub mod Sides
pub mod Coming
