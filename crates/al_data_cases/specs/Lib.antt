pub mod FuncCases
pub mod FileCases
