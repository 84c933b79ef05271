pub mod Leb128
pub mod Reading
pub mod Writing
pub mod Envelopes
pub mod Readers
pub mod Inside
pub mod RoundTrip
