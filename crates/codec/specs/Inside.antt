pub mod EnvelopeParts
pub mod NumberParts
