pub mod Listing
pub mod Tasks
pub mod Grouping
pub mod Counting
pub mod Joining
