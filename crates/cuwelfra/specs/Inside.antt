pub mod LentRecords
pub mod MessageParts
