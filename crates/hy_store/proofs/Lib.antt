pub mod Cases
pub mod FieldLaws
pub mod RunLaws
pub mod SlotLaws
