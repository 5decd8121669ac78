pub mod Building
pub mod Emitting
pub mod HandingOn
pub mod CaseProofs
