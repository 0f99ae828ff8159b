pub mod Begun
pub mod Failed
