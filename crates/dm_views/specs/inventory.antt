pub mod Records
pub mod Arena
pub mod Pages
pub mod Extended
pub mod Details
pub mod Findings
pub mod Laws
pub mod inner
