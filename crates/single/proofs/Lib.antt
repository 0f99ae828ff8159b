pub mod Refusals
pub mod Shares
pub mod Operands
pub mod Calls
pub mod Counts
