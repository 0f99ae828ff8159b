pub mod Explaining
pub mod Calls
pub mod Reading
