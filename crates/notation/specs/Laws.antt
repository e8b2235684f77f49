-- What is read and written step by step: bytes that each take a number a step on, and the lines of a text, numbered and counted.
pub mod Stepping
pub mod NumberedLines
pub mod Numbered
pub mod Counted
pub mod Reports
