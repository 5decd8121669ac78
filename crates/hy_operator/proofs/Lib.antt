pub mod Making
pub mod SoundLaws
pub mod More
pub mod Leaving
pub mod CaseProofs
