pub mod Inputs
pub mod Keeping
pub mod Working
pub mod Taking
pub mod GivingUp
pub mod CaseLaws
pub mod LawProofs
