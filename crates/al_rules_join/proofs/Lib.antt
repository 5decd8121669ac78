pub mod ConditionLaws
pub mod Matching
pub mod SetLaws
