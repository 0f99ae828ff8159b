pub mod Here
pub mod Values
pub mod Memo
pub mod Constant
