pub mod Made
pub mod Touching
