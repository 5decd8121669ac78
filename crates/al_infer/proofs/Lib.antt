pub mod Operators
pub mod ExprLaws
pub mod ListLaws
pub mod InputLaws
pub mod WalkLaws
pub mod AcceptLaws
pub mod FitLaws
pub mod ScanLaws
