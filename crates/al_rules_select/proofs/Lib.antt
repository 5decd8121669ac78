pub mod SelectLaws
pub mod WholeLaws
pub mod LocalLaws
