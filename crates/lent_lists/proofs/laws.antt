-- what is proved from the definitions
pub mod Finite
pub mod FiniteByStep
pub mod Same
pub mod SameByStep
