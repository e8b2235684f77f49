pub mod Texts
pub mod Cases
