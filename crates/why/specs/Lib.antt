pub mod Again
pub mod Greedy
pub mod Lines
