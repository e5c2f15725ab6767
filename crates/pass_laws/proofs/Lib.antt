mod FirstAsked
mod Wanting
