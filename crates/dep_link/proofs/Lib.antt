pub mod Wire
pub mod Standing
pub mod Landing
pub mod Hearing
pub mod Handed
pub mod Begun
pub mod Session
pub mod Moves
mod Anew
pub mod Answered
pub mod PeerTurns
pub mod Unbegun
pub mod Swapping
pub mod SwapEnds
pub mod AnyPeer
pub mod Brings
pub mod Carrying
pub mod Swapped
mod Replies
pub mod ActivateLaw
pub mod Released
