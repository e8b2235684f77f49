pub mod Output
pub mod Rest
pub mod Worked
pub mod Laws
