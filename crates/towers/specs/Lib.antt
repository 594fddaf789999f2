pub mod Towers
pub mod Climb
