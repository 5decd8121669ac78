pub mod WantedLaws
pub mod MatchLaws
pub mod ReadingLaws
