pub mod CallTests
pub mod NumberList
pub mod DeltaLoops
pub mod SizeLoops
pub mod SizeCalls
pub mod RealChunks
pub mod SizeExamples
pub mod DeltaTheorems
