pub mod Stages
pub mod Arrays
