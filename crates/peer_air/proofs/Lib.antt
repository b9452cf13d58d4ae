pub mod Back
pub mod Walking
pub mod Wholly
pub mod PeerEnds
pub mod Aside
