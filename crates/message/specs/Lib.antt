pub mod Messages
pub mod Reading
pub mod Calls
pub mod RoundTrip
pub mod Inside
