pub mod Settings
pub mod Inside
