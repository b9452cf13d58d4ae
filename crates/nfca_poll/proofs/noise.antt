-- Polling whatever noise there is: a resolution over listeners in any state. Read the files in this order.
pub mod NoisyTurns
pub mod Moves
pub mod ThroughNoise
pub mod FromAny
pub mod AnyTurns
pub mod Muting
pub mod NobodyIdle
pub mod Standing
pub mod SoughtFrom
pub mod PickedFrom
pub mod PlainPlaces
pub mod PolledTurns
pub mod Resting
pub mod Unlinked
pub mod Unwoken
