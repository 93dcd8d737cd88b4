mod Nearing
mod Stepping
mod Guarding
mod Calling
mod Still
mod Passing
mod Watching
