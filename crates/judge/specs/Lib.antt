pub mod Lines
pub mod Cubes
