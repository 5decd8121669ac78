pub mod Stuck
pub mod Numbers
pub mod Ends
pub mod Cases
