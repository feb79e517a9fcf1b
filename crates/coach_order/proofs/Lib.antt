mod Coupled
mod Readings
pub mod Digits
mod Names
mod Composed
mod Written
mod Breaches
mod Plainly
mod Ready
mod Printed
