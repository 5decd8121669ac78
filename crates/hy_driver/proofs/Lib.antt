pub mod Values
pub mod Turns
pub mod Forms
pub mod Passing
pub mod Keeping
pub mod StepLaws
pub mod CaseProofs
