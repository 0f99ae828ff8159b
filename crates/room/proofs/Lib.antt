pub mod More
pub mod Reduced
