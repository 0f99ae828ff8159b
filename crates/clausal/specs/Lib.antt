pub mod Drat
pub mod Tries
pub mod Literals
pub mod Shown
