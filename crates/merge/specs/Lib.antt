pub mod Reports
pub mod Inside
