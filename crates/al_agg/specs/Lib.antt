pub mod Agg
pub mod Part
pub mod Lists
