pub mod JoinRules
pub mod JoinSet
pub mod ConditionLaws
pub mod PairLaws
pub mod NullLaws
pub mod Sound
pub mod Falls
