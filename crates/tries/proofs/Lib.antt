pub mod Setting
pub mod SecondTry
pub mod Trying
pub mod Adding
pub mod Struck
pub mod Commands
