pub mod Optimised
pub mod Determined
pub mod TraceCases
pub mod Room
pub mod RoomCases
