pub mod Outside
pub mod FileRead
pub mod Mem
