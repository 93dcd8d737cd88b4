pub mod Bits
pub mod Quotients
pub mod RoundTrip
pub mod Overflows
pub mod Rotations
pub mod Back
pub mod Signed
