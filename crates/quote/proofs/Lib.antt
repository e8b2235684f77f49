mod Accepting
mod Listing
mod Quoting
mod Remarks
mod Telling
mod Turns
