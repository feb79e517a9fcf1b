pub mod Feeds
mod Four
mod Linear
mod Shifts
mod Table
mod Values
