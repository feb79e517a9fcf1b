pub mod Hexes
pub mod Cuts
pub mod Digits
