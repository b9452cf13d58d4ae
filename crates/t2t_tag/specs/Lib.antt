pub mod Spelling
pub mod Store
pub mod Step
