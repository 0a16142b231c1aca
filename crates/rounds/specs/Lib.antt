pub mod Round
pub mod AbsentLaws
pub mod RoundExamples
pub mod Parts
pub mod Dealing
