-- The numbers of PDUs that events show of payloads that were written by hand: they are sent over a link of their own,
-- whose PNIs count from 0 behind its ATR_RES (NFCIP-1, ISO/IEC 18092; that numbers are read off a trace is this
-- project's own).
use Rattle.std.specs.Prelude.{List, [], ◌∷◌, if◌then◌else◌}
use Rattle.nfc_base.specs.declared.event.Event.{Event}
use Rattle.nfc_base.specs.declared.event.Event.TheVariants.{Reset, Request, Answer, Clash}
use Rattle.nfc_base.specs.declared.event.Fate.TheVariants.{Pass, Damage, Lose, Break}
use Rattle.dep_link.specs.Activating.{is_atr_res}
use Rattle.dep_link.specs.Frames.{is_atr_req}
use Rattle.link_numbers.specs.Shown.{far_shown}
use Rattle.bench_world.specs.Legal.{Joins}

-- the events behind the first ATR_RES that came
abbrev pub behind_res : List Event → List Event
behind_res [] = []
behind_res (Reset ∷ es) = behind_res es
behind_res (Request f x ∷ es) = behind_res es
behind_res (Answer g Pass ∷ es) = if is_atr_res g then es else behind_res es
behind_res (Answer g Damage ∷ es) = behind_res es
behind_res (Answer g Lose ∷ es) = behind_res es
behind_res (Answer g Break ∷ es) = behind_res es
behind_res (Clash g x ∷ es) = behind_res es

-- ... since the first ATR_REQ; there are none where no link was opened
abbrev pub behind_opening : List Event → List Event
behind_opening [] = []
behind_opening (Reset ∷ es) = behind_opening es
behind_opening (Request f x ∷ es) = if is_atr_req f then behind_res es else behind_opening es
behind_opening (Answer g x ∷ es) = behind_opening es
behind_opening (Clash g x ∷ es) = behind_opening es

-- Nothing is joined in what was written by hand; the replies are counted on the link.
abbrev pub forged_shown : List Event → Joins
forged_shown es = record { own = []; far = far_shown 0 (behind_opening es) }
