pub mod Ends
pub mod Binary
