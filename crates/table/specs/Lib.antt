pub mod Nodes
pub mod Index
pub mod Columns
pub mod Indexed
pub mod Making
pub mod Lists
pub mod Lookup
