pub mod Task
pub mod Course
pub mod Parts
pub mod Cases
pub mod PartCases
