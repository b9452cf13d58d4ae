pub mod Store
pub mod Spelling
pub mod Step
