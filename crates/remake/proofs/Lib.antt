pub mod Redoing
pub mod Remaking
