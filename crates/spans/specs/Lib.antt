pub mod Spans
pub mod Closed
pub mod Without
pub mod Pairs
pub mod Every
