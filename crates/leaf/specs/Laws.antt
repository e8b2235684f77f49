-- What the laws of a kind rest on: windows, the numbers, the fields and the plans of a sheet.
pub mod Hulls
pub mod Limits
pub mod Orders
pub mod Deciding
pub mod Made
pub mod Slices
pub mod Flags
pub mod Writing
pub mod Encodes
pub mod Rows
pub mod Runs
pub mod Fielded
pub mod Parts
pub mod Headed
pub mod Judging
pub mod Starts
