pub mod LineLaws
pub mod Spelling
pub mod InRange
pub mod ReadsBack
pub mod TraceLaws
pub mod PhysLines
pub mod JobLines
