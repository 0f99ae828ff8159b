pub mod Passing
pub mod Tracing
pub mod Widths
