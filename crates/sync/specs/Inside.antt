pub mod DeltaSteps
pub mod SizeSteps
