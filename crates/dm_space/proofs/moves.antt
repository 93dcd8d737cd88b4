pub mod Some
pub mod Inside
pub mod Stretches
pub mod Shapes
pub mod Meets
