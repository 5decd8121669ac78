pub mod Distincts
pub mod RunArms
pub mod NestedCases
