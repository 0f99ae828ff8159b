pub mod Second
pub mod Within
