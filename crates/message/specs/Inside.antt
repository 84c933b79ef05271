pub mod ReaderParts
pub mod WriterParts
