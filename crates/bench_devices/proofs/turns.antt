-- Turns of a field of the bench's devices, with noise and without. Read the files in this order.
pub mod CalmFrames
pub mod CalmDues
pub mod CalmThrees
pub mod CardBytes
pub mod NoisyTurns
pub mod QuietPolling
pub mod QuietRats
pub mod Walk
pub mod QuietWalk
