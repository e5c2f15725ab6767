mod Outcomes
mod Words
