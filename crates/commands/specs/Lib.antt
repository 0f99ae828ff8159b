pub mod Commands
pub mod Inner
pub mod Cases
