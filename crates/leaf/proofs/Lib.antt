mod Steps
pub mod Beginnings
pub mod EncodedNumbers
pub mod Fills
