pub mod Splices
pub mod Cursors
pub mod Spottings
pub mod Sections
pub mod Measurings
pub mod Encodings
pub mod Stagings
