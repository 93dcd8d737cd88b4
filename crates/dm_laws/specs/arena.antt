pub mod Paragraphs
pub mod Conservation
pub mod Contents
pub mod Pairs
