-- The server's sessions: what units make of them, and what is accepted. Read the files in this order.
pub mod Cuts
pub mod FirstUnits
pub mod Jobs
pub mod Following
pub mod Lengths
pub mod Links
pub mod Offers
pub mod UnitPuts
pub mod SourcesTold
pub mod PayloadLaw
pub mod Removed
pub mod Served
pub mod Sessions
pub mod Serving
pub mod Shares
