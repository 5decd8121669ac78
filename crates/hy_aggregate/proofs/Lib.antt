pub mod Stable
pub mod States
pub mod Fields
pub mod Joining
pub mod Lasting
pub mod Aggregating
pub mod CaseProofs
