pub mod Text
pub mod Numbers
pub mod Header
pub mod Clauses
pub mod Inner
pub mod Texts
