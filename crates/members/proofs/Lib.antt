pub mod Counting
pub mod Written
pub mod Cutting
pub mod Touching
pub mod Rewording
pub mod Replacing
pub mod OneByOne
