pub mod OneWay
pub mod OneText
pub mod Answered
