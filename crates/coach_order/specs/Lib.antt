pub mod Orders
pub mod Plain
pub mod Reads
pub mod Ordered
pub mod Pages
