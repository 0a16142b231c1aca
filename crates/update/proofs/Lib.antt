pub mod Fixed
pub mod Loops
pub mod WholeList
pub mod ImageTaken
pub mod StoredLaws
