pub mod Numbers
pub mod Choices
