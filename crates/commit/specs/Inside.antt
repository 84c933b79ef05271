pub mod HeldSlots
pub mod Logging
