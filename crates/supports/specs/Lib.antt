pub mod Supports
