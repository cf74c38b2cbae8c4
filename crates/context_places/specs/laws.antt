-- what is proved of lists laid into arrays
pub mod Copies
