pub mod Paths
pub mod Right
pub mod Testing
pub mod Gathered
pub mod Counting
