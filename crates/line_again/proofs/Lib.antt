pub mod Twice
pub mod Refusals
pub mod Fresh
pub mod Making
pub mod Begins
