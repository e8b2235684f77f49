pub mod Texts
pub mod WrittenDates
pub mod Making
pub mod Works
