pub mod Parts
pub mod Causes
pub mod Explanation
pub mod Answers
pub mod Shows
pub mod Rows
