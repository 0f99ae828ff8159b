pub mod Turns
pub mod Made
pub mod Tried
pub mod Told
