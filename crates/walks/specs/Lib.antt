pub mod Readable
pub mod Constant
