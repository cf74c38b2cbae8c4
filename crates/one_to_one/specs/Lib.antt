-- what the theorems speak of
pub mod Filling
pub mod Inside
-- and for the witnesses
pub mod Plain
pub mod Witness
pub mod FullWitness
-- laws and theorems
pub mod laws
