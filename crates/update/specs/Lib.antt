pub mod Update
pub mod Pieces
pub mod SendLaws
pub mod UpdateLaws
pub mod BoundLaws
pub mod LockedLaws
pub mod UpdateExamples
pub mod PieceLaws
