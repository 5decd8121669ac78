pub mod Tokens
pub mod TokenReading
pub mod Reads
pub mod PlanReading
