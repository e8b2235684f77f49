pub mod Outcomes
pub mod Lines
pub mod Folds
pub mod Admissions
pub mod Answers
