pub mod Logs
pub mod Replays
pub mod Nexts
pub mod Losing
pub mod Odd
pub mod OddWrites
