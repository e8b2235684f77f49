pub mod Cuts
pub mod Parts
