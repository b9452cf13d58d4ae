pub mod Numbers
pub mod Spelling
pub mod Refusal
pub mod Reading
