pub mod Cases
pub mod Faults
pub mod Fields
pub mod Folder
pub mod Laws
pub mod Mem
pub mod Runs
pub mod Slots
