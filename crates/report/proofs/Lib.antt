pub mod Digits
pub mod Putting
pub mod Saying
pub mod Read
