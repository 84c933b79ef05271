pub mod CutPlace
