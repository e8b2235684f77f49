pub mod Pieces
pub mod Works
pub mod GoingOn
