pub mod Settles
pub mod Named
pub mod Puts
pub mod Removes
pub mod Creates
