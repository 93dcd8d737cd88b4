pub mod footprints
pub mod supplies
pub mod steps
pub mod instructions
pub mod processes
pub mod arena
pub mod arithmetic
