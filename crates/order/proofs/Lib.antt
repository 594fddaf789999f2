pub mod Leads
pub mod Words
pub mod Sorts
pub mod Numbers
pub mod Orders
pub mod Alike
pub mod Examples
