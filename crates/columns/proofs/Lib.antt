pub mod First
pub mod Lists
pub mod Setting
pub mod Whole
