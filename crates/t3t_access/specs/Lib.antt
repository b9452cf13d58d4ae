pub mod Numbers
pub mod Talk
pub mod Answers
pub mod Reading
pub mod Own
pub mod Writing
pub mod OwnWriting
pub mod Polling
