pub mod Names
pub mod Sizes
pub mod Be
pub mod Areas
pub mod Choice
pub mod Lists
pub mod Inside
