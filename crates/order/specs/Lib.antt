pub mod Choices
pub mod Lines
pub mod Examples
