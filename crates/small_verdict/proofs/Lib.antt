pub mod Never
pub mod FewPaths
pub mod Roomy
pub mod Agreement
pub mod Rows
