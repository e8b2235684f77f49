pub mod Batch
pub mod Sheets
pub mod Quotation
pub mod Taking
