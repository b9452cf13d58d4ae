-- The numbers that a call's own frames show are as good as the true ones. Read the files in this order.
pub mod CallKeeps
pub mod OwnCuts
pub mod OwnMoving
pub mod OwnTurns
pub mod OwnPlaces
pub mod OwnBegun
pub mod CallTurns
pub mod Own
pub mod OwnAlike
pub mod OwnShown
pub mod Resting
