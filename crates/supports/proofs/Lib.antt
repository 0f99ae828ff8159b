pub mod ForcedWords
pub mod Words
