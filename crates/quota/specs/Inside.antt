pub mod Authors
pub mod Room
