-- what is proved from the definitions
pub mod Text
pub mod Decimal
