pub mod Opens
pub mod Keys
pub mod Rows
pub mod Tables
pub mod Handing
