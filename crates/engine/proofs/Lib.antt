pub mod PreparingSteps
pub mod SealingSteps
