pub mod Words
pub mod Puts
pub mod Moves
pub mod Conjunction
