pub mod Ledger
pub mod Step
pub mod History
pub mod HistoryExamples
