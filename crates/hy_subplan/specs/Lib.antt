pub mod Nesting
pub mod Held
pub mod Subplan
pub mod Stretch
pub mod PreGroup
pub mod Cases
