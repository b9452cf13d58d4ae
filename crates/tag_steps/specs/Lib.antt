pub mod Replay
pub mod Reading
pub mod Logged
pub mod Writing
pub mod Surveying
