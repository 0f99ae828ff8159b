pub mod Operate
pub mod Inner
