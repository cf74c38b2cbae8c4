-- what proofs share
pub mod Clear
pub mod Most
