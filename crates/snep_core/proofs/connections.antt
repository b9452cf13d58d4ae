-- The connections of two ends, SAP by SAP, and the PDUs that go from one to the other. Read the files in this order.
pub mod Around
pub mod Carrying
pub mod Owned
pub mod OnConnection
pub mod Pairs
pub mod Reached
pub mod Tally
pub mod Sides
pub mod Places
pub mod Asides
pub mod Connecting
pub mod Meets
pub mod Opening
pub mod Connects
pub mod Debts
pub mod Hops
pub mod Popping
