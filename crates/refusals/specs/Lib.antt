pub mod Open
pub mod Table
pub mod Answer
