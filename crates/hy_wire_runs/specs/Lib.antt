pub mod Desks
pub mod Lines
pub mod Merging
pub mod Readers
