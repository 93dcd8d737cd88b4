pub mod outcomes
pub mod leaks
pub mod Origins
pub mod inner
