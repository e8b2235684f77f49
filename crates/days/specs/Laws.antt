-- What the laws of day leaves rest on.
pub mod Layout
