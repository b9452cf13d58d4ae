-- Proofs that traits' laws and crates above take from here: what they state is said by the definitions beside this
-- folder. Read the files in this order.
pub mod Resting
pub mod FrontLaws
pub mod OwnFrames
pub mod Ours
pub mod PlainFronts
pub mod StillSteady
