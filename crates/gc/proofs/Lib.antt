pub mod CutoffScan
