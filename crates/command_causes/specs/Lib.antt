pub mod Causes
pub mod Choice
