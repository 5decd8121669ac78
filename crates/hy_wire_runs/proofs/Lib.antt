pub mod DeskRuns
pub mod LineRuns
pub mod MergeRuns
pub mod ReadRuns
