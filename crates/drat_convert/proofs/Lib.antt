pub mod Room
pub mod Writing
