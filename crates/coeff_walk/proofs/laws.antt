-- what is proved from the definitions
pub mod ByStep
pub mod Counts
pub mod Items
pub mod Kept
pub mod Lent
pub mod Outcome
pub mod PlaceLaws
pub mod Remaining
pub mod Runs
pub mod Sparse
pub mod Used
pub mod Walks
