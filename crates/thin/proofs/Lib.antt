pub mod Building
pub mod Stepping
pub mod Descending
pub mod LiteralSteps
pub mod Cutting
