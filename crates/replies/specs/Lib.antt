pub mod Replies
pub mod ReplyLaws
