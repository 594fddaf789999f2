pub mod Spans
pub mod Entries
pub mod Charts
pub mod Parts
