pub mod Small
pub mod Agrees
pub mod Rows
