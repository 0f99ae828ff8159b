pub mod Paths
pub mod Walk
pub mod Rounds
