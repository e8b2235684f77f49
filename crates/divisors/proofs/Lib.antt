pub mod Sizes
pub mod Places
pub mod Loops
pub mod Padded
pub mod Steps
pub mod Single
