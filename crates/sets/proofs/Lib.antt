pub mod Level
pub mod Lower
pub mod Rows
pub mod Counting
