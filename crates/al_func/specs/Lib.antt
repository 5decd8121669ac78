pub mod Func
pub mod Items
pub mod Rex
