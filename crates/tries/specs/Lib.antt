pub mod Words
pub mod Tries
pub mod Lowest
pub mod Commands
