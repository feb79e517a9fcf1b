pub mod Checksum
pub mod Tables
