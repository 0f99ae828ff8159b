pub mod Again
pub mod Greedy
pub mod Deciding
pub mod Lines
pub mod Children
pub mod Widths
