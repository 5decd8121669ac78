pub mod Cases
pub mod Laws
pub mod Rule
pub mod Seats
pub mod Tokens
