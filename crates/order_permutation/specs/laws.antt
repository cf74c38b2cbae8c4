-- what is proved from the definitions
pub mod Permuted
pub mod Chosen
pub mod Numbers
pub mod Below
pub mod Permuting
pub mod Blocks
pub mod Packed
pub mod Drawing
