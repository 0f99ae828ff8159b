pub mod Diagrams
pub mod Making
pub mod Literals
pub mod Values
pub mod Finding
