pub mod Funcs
pub mod Files
