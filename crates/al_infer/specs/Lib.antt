pub mod Asked
pub mod Inputs
pub mod Walk
pub mod Answer
pub mod Laws
