pub mod Counts
pub mod Variables
pub mod Building
