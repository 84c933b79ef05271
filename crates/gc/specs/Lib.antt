pub mod Cutoff
pub mod Inside
