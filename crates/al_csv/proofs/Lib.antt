pub mod AllOk
pub mod Cells
pub mod FieldLaws
pub mod GeneratedRows
pub mod Rows
pub mod Texts
pub mod Walks
pub mod ValueRows
