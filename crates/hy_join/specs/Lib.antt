pub mod Build
pub mod Fields
pub mod Keys
pub mod Probe
pub mod Cases
