pub mod Single
pub mod Inner
