pub mod Faults
pub mod OldReadings
pub mod Passes
pub mod FaultExamples
