pub mod Variables
pub mod LiteralSets
