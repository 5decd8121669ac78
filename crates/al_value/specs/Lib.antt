pub mod Field
pub mod Hash
pub mod Outside
pub mod Text
pub mod Value
pub mod formers
