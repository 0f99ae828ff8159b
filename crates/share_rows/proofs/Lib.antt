pub mod SessionRows
pub mod KeptRows
