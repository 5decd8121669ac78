pub mod Answer
pub mod Served
pub mod Tells
pub mod Lines
pub mod Compiles
