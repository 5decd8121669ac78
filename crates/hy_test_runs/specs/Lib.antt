pub mod Opens
pub mod Ready
pub mod Arguments
