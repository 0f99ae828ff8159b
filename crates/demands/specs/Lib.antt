pub mod Calls
pub mod Words
pub mod Texts
pub mod Leaving
pub mod Full
pub mod Stays
pub mod Conversions
pub mod LongRows
