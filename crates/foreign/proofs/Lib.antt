pub mod Makes
pub mod Counting
pub mod Handing
pub mod Inserting
