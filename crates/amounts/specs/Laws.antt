-- What the laws of amount leaves rest on.
pub mod Layout
