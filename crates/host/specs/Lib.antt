pub mod Record
pub mod RecordLaws
pub mod LockLaws
pub mod RecordExamples
