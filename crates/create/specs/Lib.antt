pub mod Tables
pub mod Creates
