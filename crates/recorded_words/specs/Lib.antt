-- a file's bytes as numbers
pub mod Words
pub mod laws
