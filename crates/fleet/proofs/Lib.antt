pub mod Finds
pub mod Found
pub mod Crowds
pub mod Answered
pub mod Identified
pub mod Holds
pub mod Gets
