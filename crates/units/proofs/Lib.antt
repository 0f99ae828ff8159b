pub mod Branches
pub mod Struck
pub mod Tops
