pub mod Bits
pub mod Stops
pub mod Witnesses
pub mod Strikings
pub mod PathWidths
pub mod Lines
pub mod Records
