-- No payload of an end is longer than one may be. Read the files in this order.
pub mod SizedWorld
pub mod SizedConns
pub mod SizedEnds
pub mod SizedItems
pub mod SizedGives
pub mod SizedCalls
pub mod SizedFronts
pub mod SizedServer
pub mod SizedTargets
pub mod SizedDevices
pub mod SizedWalks
pub mod SizedStates
