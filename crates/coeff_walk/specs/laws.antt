-- what is proved of a channel's reading
pub mod Outcome
pub mod Runs
pub mod Sparse
pub mod Lent
pub mod Items
pub mod Kept
pub mod Walks
