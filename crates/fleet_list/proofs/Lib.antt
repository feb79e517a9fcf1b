mod Seq
mod Cursors
mod Series
mod Runs
mod Counting
mod Stops
mod Digits
mod Letters
mod Pads
mod Spelled
mod Hex
mod Cars
mod Four
mod Lent
mod Gathers
mod Rows
mod Behind
mod Loops
mod Checked
mod BookRows
pub mod Back
pub mod Lawful
mod Decides
mod Stores
mod Ready
mod Sizes
mod Loads
mod Long
mod Shows
mod Journeys
pub mod Examples
