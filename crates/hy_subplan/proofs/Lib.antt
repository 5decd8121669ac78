pub mod NestedSome
pub mod SubplanLaws
pub mod Stretches
pub mod StretchLaws
pub mod PreLaws
pub mod CaseProofs
