pub mod Peers
pub mod Area
pub mod Inside
