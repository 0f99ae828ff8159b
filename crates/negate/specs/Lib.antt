pub mod Negations
pub mod Thin
