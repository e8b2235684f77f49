pub mod Shown
pub mod Running
