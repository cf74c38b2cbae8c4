-- numbers, lists and records of the recorded list
pub mod Lists
pub mod Frames
pub mod laws
