pub mod Run
pub mod LengthLaws
pub mod CheckLaws
