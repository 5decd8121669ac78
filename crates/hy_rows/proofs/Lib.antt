pub mod RowLaws
pub mod RowSteps
pub mod Sorting
pub mod Received
pub mod Cases
pub mod Keys
pub mod FieldOrder
