pub mod Closed
pub mod Desks
