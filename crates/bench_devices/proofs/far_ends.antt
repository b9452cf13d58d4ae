-- Peers with their far ends: opening a link, talking over it, releasing it. Read the files in this order.
pub mod BesideLink
pub mod TalkTurns
pub mod FarLeaves
pub mod LinkingNotes
pub mod OpensPeer
pub mod LinkFar
pub mod SwapLeaves
