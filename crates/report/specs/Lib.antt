pub mod Line
pub mod Files
