pub mod Parts
pub mod Formula
pub mod Reads
pub mod DratText
