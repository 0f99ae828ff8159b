pub mod Marks
pub mod Numbers
pub mod Asked
pub mod Marked
