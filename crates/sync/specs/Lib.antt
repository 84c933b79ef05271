pub mod Delta
pub mod Sizes
pub mod RealChunks
pub mod Inside
pub mod Chunks
