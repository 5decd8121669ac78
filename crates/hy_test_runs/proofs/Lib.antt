pub mod ReadyLaws
pub mod ArgumentLaws
