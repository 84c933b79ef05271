pub mod RowParts
pub mod SlotParts
pub mod WireLengths
