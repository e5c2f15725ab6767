mod Statuses
mod WorkedRun
