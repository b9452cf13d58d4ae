pub mod Counts
pub mod Moves
pub mod Pieces
pub mod Lines
pub mod Room
pub mod Reading
pub mod InOrder
pub mod Behind
