pub mod Attributes
pub mod Store
pub mod Form
pub mod Spelling
pub mod Reading
pub mod Step
pub mod Linked
