pub mod Cases
pub mod RefineCases
