mod StepLaws
mod Quicks
pub mod OneRun
pub mod OneStop
mod DecodeCaches
mod Elements
mod HomeKept
mod Bundles
mod Confined
mod Kept
mod Extended
mod NoRoom
mod Rooms
mod Consistency
mod UntilLaws
mod Passing
mod Strings
mod Nearby
mod UntilRuns
pub mod OneUntil
