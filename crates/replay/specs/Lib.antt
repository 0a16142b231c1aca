pub mod Output
pub mod OutputLaws
