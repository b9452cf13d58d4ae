pub mod Mask
pub mod Slots
pub mod Store
pub mod Spelling
pub mod Reading
pub mod Step
