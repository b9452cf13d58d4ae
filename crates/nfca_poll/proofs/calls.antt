-- Calls by rounds over polled listeners: what is known at each point, and how they end. Read the files in this order.
pub mod CallEnds
pub mod RoundCards
pub mod RoundHolds
pub mod CrowdSteps
pub mod RoundCalls
pub mod RoundSteps
