pub mod RowFate
pub mod ReportLines
pub mod LogLoop
pub mod SlotWrites
pub mod HeldSlots
