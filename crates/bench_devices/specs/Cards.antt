-- What contracts see of a Type 4 tag above a listener front (NFC Forum Type 4 Tag; ISO/IEC 14443-4).
use Rattle.std.specs.Prelude.{Bool, if◌then◌else◌}
use Rattle.t4t_tag.specs.Store.{T4State}
use Rattle.isodep_link.specs.Card.{CardState, darkened}

-- the tag, its card's end, and whether RATS opened a link to it
pub record T4Near : Type 0 where
  pub tag : T4State
  pub card : CardState
  pub linked : Bool

-- the card's end that hears the next frame: without a link, as it was made
abbrev pub card_now : T4Near → CardState
card_now u = if u.linked then u.card else darkened u.card
