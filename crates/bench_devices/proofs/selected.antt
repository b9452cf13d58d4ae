-- Commands over a link to the selected tag: what is asked, what is answered, and what stays of the devices. Read the
-- files in this order.
pub mod Alone
pub mod LinkEnds
pub mod PlainEnds
pub mod CardEnds
pub mod CardHeard
pub mod CardKept
pub mod CardLinks
pub mod CardParts
pub mod LinkAsked
pub mod NewLinks
pub mod PlainHeard
pub mod TagHeard
pub mod SelectedHeard
pub mod SelectedLaw
