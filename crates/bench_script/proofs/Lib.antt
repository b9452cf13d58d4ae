pub mod Words
pub mod Messages
pub mod Rows
pub mod Frames
pub mod SlotPuts
pub mod Spelling
pub mod Canonical
