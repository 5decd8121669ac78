pub mod Living
pub mod Working
pub mod Parcels
pub mod Breaking
pub mod AfterFailure
pub mod Ending
pub mod CaseLaws
