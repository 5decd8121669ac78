pub mod PartCases
pub mod StandCases
pub mod InnerCases
pub mod EachPartCases
pub mod StretchCases
