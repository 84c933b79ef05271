pub mod Validation
pub mod BatchLoop
pub mod RowStarts
