pub mod ItemLaws
pub mod RexLaws
pub mod TextLaws
