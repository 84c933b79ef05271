pub mod Decision
pub mod Applying
