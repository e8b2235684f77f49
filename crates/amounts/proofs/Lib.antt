pub mod Snaps
pub mod Listing
pub mod Writes
pub mod Works
pub mod Making
