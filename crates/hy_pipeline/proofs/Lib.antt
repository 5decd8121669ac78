pub mod StepLaws
pub mod EndLaws
pub mod CaseLaws
pub mod TaskLaws
pub mod HandLaws
pub mod TestLaws
pub mod DoneLaws
