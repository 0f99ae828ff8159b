pub mod Sound
pub mod Widths
pub mod Walks
pub mod Sequence
