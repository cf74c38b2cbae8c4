-- the words of the contracts
pub mod laws
