pub mod Frees
pub mod Supers
pub mod Tables
pub mod Images
pub mod Named
