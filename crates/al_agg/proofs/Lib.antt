pub mod AggLaws
pub mod HalfLaws
pub mod PartLaws
pub mod FieldLaws
pub mod ListLaws
