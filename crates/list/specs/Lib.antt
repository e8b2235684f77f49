pub mod Lists
pub mod Sheets
pub mod Readings
pub mod Runs
pub mod Seen
pub mod Encoded
pub mod Held
pub mod Taking
