pub mod Flow
pub mod Answer
pub mod Fault
pub mod AnswerCases
