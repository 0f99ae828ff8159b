pub mod Quieting
pub mod Rounds
