pub mod Why
pub mod Inner
