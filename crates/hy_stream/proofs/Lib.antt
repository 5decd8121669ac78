pub mod WorkLaws
pub mod StreamLaws
pub mod SourceLaws
pub mod UnnestLaws
pub mod Cases
