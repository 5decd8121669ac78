pub mod Fields
pub mod Generator
pub mod Lines
pub mod OutText
pub mod Records
pub mod Written
