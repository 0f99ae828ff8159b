pub mod Sizes
pub mod Opening
