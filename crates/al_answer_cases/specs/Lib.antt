pub mod ListCases
pub mod RecordCases
