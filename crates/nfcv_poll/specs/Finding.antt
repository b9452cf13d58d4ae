-- What a search for all Type 5 tags answers, by what was heard, over any listeners.
use Rattle.std.specs.Prelude.{◌≡◌, ◌↔◌, ◌⊎◌, ◌<◌, ◌≤◌, ℕ, List, [], ◌∷◌, length, filter, Bool, true, false, ◌==◌, ◌&&◌}
use Rattle.std.specs.Prelude.{Option, Result, Ok, Err, Vec}
use Rattle.std.specs.List.{list_any}
use Rattle.nfc_base.specs.Trace.{Turn, heard, by_heard}
use Rattle.nfc_base.specs.declared.event.Heard.{Heard}
use Rattle.air_core.specs.Joint.{same_signal}
use Rattle.nfca_poll.specs.declared.fault.PollFault.{PollFault}
use Rattle.nfca_poll.specs.declared.fault.PollFault.TheVariants as faults
use Rattle.nfca_poll.specs.Inventory.{inventory_all}
use Rattle.t5t_tag.specs.Reading.{spelled_answer}
use Rattle.t5t_tag.specs.Slots.{id_number}
use Rattle.t5t_tag.specs.Spelling.{slots_flags}
use Rattle.nfcv_poll.specs.Search.{most_passes, most_rounds, said_by}
use Rattle.nfcv_poll.specs.declared.search.Said.{Said}
use Rattle.nfcv_poll.specs.declared.search.Said.TheVariants as told

-- the identifiers that a call answers, as a list
abbrev pub identifiers : {Z : Type 0} → Result (Vec (List ℕ) Z) PollFault → Result (List (List ℕ)) PollFault
identifiers (Ok ids) = Ok ids.items
identifiers (Err fault) = Err fault

-- ascending as numbers, and so each once
abbrev pub IsAscending : List (List ℕ) → Type 0
IsAscending [] = Unit {0}
IsAscending (i ∷ []) = Unit {0}
IsAscending (i ∷ j ∷ is) = (id_number i < id_number j) × IsAscending (j ∷ is)

abbrev pub AreAscending : Result (List (List ℕ)) PollFault → Type 0
AreAscending (Ok ids) = IsAscending ids
AreAscending (Err fault) = Unit {0}

-- it was asked who is left, and what was heard is no silence
abbrev pub is_answered : Option Heard → Bool
is_answered o = by_heard o (λ g. true) (λ g. true) true false false

abbrev pub is_answered_question : Turn → Bool
is_answered_question t = same_signal t.request inventory_all && is_answered (heard t)

abbrev pub answered_questions : List Turn → ℕ
answered_questions ts = length (filter is_answered_question ts)

-- a request that begins a round
abbrev pub begins_with : ℕ → List ℕ → Bool
begins_with n [] = false
begins_with n (b ∷ bs) = b == n

abbrev pub begins_round : Turn → Bool
begins_round t = begins_with slots_flags t.request.bytes

abbrev pub rounds_begun : List Turn → ℕ
rounds_begun ts = length (filter begins_round ts)

-- a whole frame was heard that is no tag's answer to an inventory
abbrev pub is_strange_said : Said → Bool
is_strange_said told.Nothing = false
is_strange_said told.Clash = false
is_strange_said (told.Tag id) = false
is_strange_said told.Strange = true

abbrev pub is_strange : Turn → Bool
is_strange t = by_heard (heard t) (λ g. is_strange_said (said_by (spelled_answer g))) (λ g. false) false false false

-- Why a search ends without its tags: disturbed exactly where the question who is left was answered in each of four
-- passes; a bad answer only where a whole frame was none of a tag, or 128 rounds were begun; never by the faults of
-- other calls.
pub record HasCauses (ts : List Turn) (r : Result (List (List ℕ)) PollFault) : Type 0 where
  pub disturbed : (r ≡ Err faults.Disturbed) ↔ (answered_questions ts ≡ most_passes)
  pub bad : r ≡ Err faults.BadAnswer → (list_any is_strange ts ≡ true) ⊎ (most_rounds ≤ rounds_begun ts)
  pub nobody : r ≡ Err faults.Nobody → ⊥
  pub not_found : r ≡ Err faults.NotFound → ⊥
