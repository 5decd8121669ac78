pub mod ConjLaws
pub mod FirstLaws
pub mod Literals
pub mod OverLaws
pub mod CountLaws
pub mod Sums
