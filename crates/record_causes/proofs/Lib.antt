pub mod Told
pub mod Refused
pub mod Witnesses
pub mod LastTry
