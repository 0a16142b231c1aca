pub mod CueOrder
pub mod CueExamples
