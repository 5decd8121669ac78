pub mod WayLaws
pub mod PackLaws
pub mod OfferLaws
pub mod EndLaws
pub mod WordLaws
pub mod CaseLaws
