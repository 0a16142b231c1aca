pub mod Pictures
pub mod PictureLaws
pub mod PictureExamples
