pub mod Subplans
