mod Reading
mod Judging
