pub mod EveryText
pub mod TextCases
