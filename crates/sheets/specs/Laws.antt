-- Sheets of which only the front matters.
pub mod TooLong
