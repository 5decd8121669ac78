pub mod Simple
pub mod Ordered
pub mod Joined
pub mod Nests
pub mod Groups
pub mod Refining
