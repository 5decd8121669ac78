pub mod ListLaws
pub mod StepLaws
pub mod DoneLaws
pub mod PartLaws
pub mod CaseLaws
pub mod PartCaseLaws
