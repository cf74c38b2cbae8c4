-- what is proved of a pass group's reading
pub mod GroupLaws
pub mod Steps
pub mod Plans
pub mod Rewritten
pub mod Lent
pub mod Channel
pub mod Due
pub mod Used
pub mod WorkLaws
pub mod Symbols
pub mod Cells
pub mod Reads
