-- what is proved from the definitions
pub mod Cells
pub mod Channel
pub mod Channels
pub mod Due
pub mod GroupLaws
pub mod Lent
pub mod Plans
pub mod Reads
pub mod Rewritten
pub mod Step
pub mod Steps
pub mod Stored
pub mod Symbols
pub mod Used
pub mod WorkLaws
