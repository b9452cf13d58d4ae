-- States of which nothing that shows differs. Read the files in this order.
pub mod AlikeDevices
pub mod AlikeEnds
pub mod AlikeTells
pub mod AlikeWorlds
pub mod AlikeChanged
pub mod AlikeFronts
pub mod AlikeLaws
pub mod AlikeStates
