pub mod Tables
pub mod Enterings
pub mod Creatings
