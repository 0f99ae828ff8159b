pub mod Units
pub mod Tracing
