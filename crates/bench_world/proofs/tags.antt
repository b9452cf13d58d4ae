-- Commands that find, read and write tags: what they come to, and that the answers tell it. Read the files in this
-- order.
pub mod Numbers
pub mod Fronts
pub mod Telling
pub mod Legality
pub mod AskedBehind
pub mod WriteTelling
pub mod WriteLegality
pub mod Unfinished
pub mod Benches
pub mod FirstBroken
pub mod Strays
pub mod Followings
pub mod Senses
pub mod ThreeTelling
pub mod ThreeLegality
pub mod SoughtHeard
