pub mod Forms
pub mod Unchanged
pub mod Linked
