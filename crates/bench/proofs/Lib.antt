pub mod Accepting
pub mod Acts
pub mod Places
pub mod Runs
pub mod Sound
