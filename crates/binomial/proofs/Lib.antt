pub mod Pascal
pub mod Counting
pub mod Values
