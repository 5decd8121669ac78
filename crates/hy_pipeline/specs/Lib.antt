pub mod Pipeline
pub mod Laws
pub mod Cases
pub mod Tasks
pub mod Tests
