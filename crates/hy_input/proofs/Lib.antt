pub mod Hands
pub mod Taking
pub mod Merging
pub mod Mixing
pub mod Bringing
pub mod Closing
pub mod CaseLaws
pub mod Holding
