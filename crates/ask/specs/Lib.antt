pub mod AmountTexts
pub mod AmountQuestions
pub mod DayTexts
pub mod DayQuestions
pub mod Lines
pub mod Output
