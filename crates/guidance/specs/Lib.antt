pub mod Picker
