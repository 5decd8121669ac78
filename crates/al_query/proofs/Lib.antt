pub mod Dues
pub mod Loads
pub mod Steps
pub mod Compiles
