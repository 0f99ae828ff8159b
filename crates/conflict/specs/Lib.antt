pub mod Members
pub mod Marks
