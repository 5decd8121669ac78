pub mod AppendLaws
pub mod ByteLists
pub mod FrameCases
pub mod FrameLaws
pub mod PieceLaws
pub mod RowLaws
pub mod WordLaws
pub mod ParseLaws
