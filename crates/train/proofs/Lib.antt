pub mod Bytes
pub mod Rules
pub mod Equal
pub mod Facings
pub mod Names
pub mod Turns
