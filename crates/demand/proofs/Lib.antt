pub mod ClearLaws
pub mod Lamps
pub mod RecoveryExamples
pub mod RecoveryLaws
pub mod RivalLaws
pub mod Theorem
pub mod WorldLaws
