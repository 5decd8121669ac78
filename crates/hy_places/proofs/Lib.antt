pub mod Lists
pub mod Counting
pub mod Parts
pub mod Sending
pub mod Numbers
pub mod Steps
pub mod Owning
pub mod Cases
