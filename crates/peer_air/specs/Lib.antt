pub mod SwapTurns
pub mod Ends
pub mod PeerFars
pub mod Aside
