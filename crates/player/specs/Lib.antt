pub mod Play
pub mod PlayLaws
