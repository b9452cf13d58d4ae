-- One round of polling alone: it goes by the steps of a call by rounds, and no other round follows (rounds are this
-- project's own).
use Rattle.std.specs.Prelude.{ℕ, List, Bool, false, if◌then◌else◌, Option, Some, None, Ok}
use Rattle.nfca_poll.specs.declared.fault.Picked.{Picked}
use Rattle.nfca_poll.specs.declared.rounds.RoundEnd.{RoundEnd}
use Rattle.nfca_poll.specs.declared.rounds.RoundEnd.TheVariants as ends
use Rattle.nfca_poll.specs.Enquiry.{Enquiry}
use Rattle.nfca_poll.specs.Rounds.{Aim, Search, Told, is_same, by_rounds}

-- whether a device is the wanted one, if one is wanted
abbrev pub is_wanted : Option (List ℕ) → Picked → Bool
is_wanted None p = false
is_wanted (Some id) p = is_same p.id id

-- a round ends with the wanted device, if one is wanted; and where nobody else is there, with those that it found
abbrev pub round_of : Option (List ℕ) → Aim RoundEnd
round_of wanted = record {
  takes = λ p. if is_wanted wanted p then Some (ends.Selected p.kind) else None;
  nobody = λ found. Ok (ends.Nobody found);
}

-- no other round follows on one that is disturbed
abbrev pub no_more : ℕ → Search RoundEnd
no_more round = Told (Ok ends.Disturbed)

abbrev pub one_round : Option (List ℕ) → Enquiry (Search RoundEnd) RoundEnd
one_round wanted = by_rounds (round_of wanted) no_more
