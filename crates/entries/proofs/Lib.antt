pub mod Stops
pub mod Entries
pub mod Entering
pub mod Nodes
pub mod SetEntries
