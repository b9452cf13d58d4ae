-- Client and peer accord, before a call and behind it. Read the files in this order.
pub mod Ends
pub mod Requests
pub mod AllBegin
pub mod AllJobs
pub mod AllOver
pub mod Partings
pub mod CloseEnds
pub mod RequestEnds
pub mod GetEnds
pub mod LookupEnds
pub mod Peers
pub mod PutEnds
pub mod PutsEnd
pub mod PutsRun
pub mod RunEnds
