mod Totals
mod Histories
mod Holdings
mod WordSteps
mod Calls
mod CallerSteps
pub mod Crosses
mod Closing
mod Ends
mod PartSteps
mod Steps
mod Seating
mod Whole
mod Joining
