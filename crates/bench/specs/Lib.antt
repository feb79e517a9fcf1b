pub mod Table
pub mod Calls
pub mod Facts
pub mod Shown
pub mod Standing
