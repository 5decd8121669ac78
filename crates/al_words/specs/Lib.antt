pub mod Usage
pub mod Verbs
pub mod Words
