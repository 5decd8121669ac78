pub mod InOrder
pub mod OrderCases
