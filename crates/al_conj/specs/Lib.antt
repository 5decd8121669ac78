pub mod Conj
pub mod Laws
