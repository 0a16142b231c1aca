pub mod Show
pub mod ShowLaws
pub mod ShowExamples
