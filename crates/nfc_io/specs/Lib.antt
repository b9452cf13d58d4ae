pub mod Counts
pub mod Moves
pub mod Memory
pub mod Standard
pub mod Lines
pub mod Reading
pub mod Behind
