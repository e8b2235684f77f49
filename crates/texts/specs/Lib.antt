pub mod Text
pub mod Cursors
pub mod Refusals
pub mod Laws
