pub mod Rising
pub mod OneStages
pub mod PieceOrder
pub mod OrderCases
