pub mod Sorting
pub mod Told
pub mod Lines
pub mod Commands
