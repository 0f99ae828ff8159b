pub mod Emptied
pub mod Building
