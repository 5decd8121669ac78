pub mod Lowers
pub mod Selects
pub mod Sound
pub mod Sets
