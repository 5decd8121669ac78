pub mod StuckLaws
pub mod NumberLaws
pub mod CaseLaws
