pub mod References
pub mod Scratch
pub mod Columns
pub mod DrainClock
pub mod Looks
pub mod Keys
pub mod Entry
