-- what is proved from the definitions
pub mod Demand3
pub mod Correspond
pub mod SymbolsRead
pub mod CountsUsed
pub mod Surplus
pub mod Witness
pub mod FullWitness
pub mod OneToOne
pub mod Spread
pub mod Items
pub mod Ways
pub mod Computes
pub mod InsideLaws
pub mod Empty
