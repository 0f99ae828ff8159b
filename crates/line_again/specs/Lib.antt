pub mod Before
pub mod Made
