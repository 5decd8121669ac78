pub mod AllTokens
pub mod AllTexts
pub mod SmallTexts
