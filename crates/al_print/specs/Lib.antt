pub mod Canonical
pub mod Laws
pub mod Traces
pub mod Physical
pub mod Jobs
pub mod Explanation
