pub mod Showing
pub mod Meeting
pub mod OnField
pub mod Quietly
pub mod FarTurns
pub mod Staying
