pub mod FarEnds
pub mod FarWorld
pub mod FarLaws
pub mod Quietly
pub mod FarTurns
pub mod Staying
pub mod TwoFrames
