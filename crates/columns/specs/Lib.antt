pub mod Slice
pub mod Inner
