pub mod Displays
pub mod Answers
pub mod Starts
