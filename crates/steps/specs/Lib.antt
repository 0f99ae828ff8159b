pub mod NextStates
pub mod Tried
pub mod Tests
