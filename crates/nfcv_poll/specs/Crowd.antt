-- What a search comes to over a crowd of Type 5 tags, under any fates (ISO/IEC 15693-3; how many they are at most is
-- this project's own).
use Rattle.std.specs.Prelude.{◌≡◌, ◌≤◌, ◌<◌, ℕ, List, [], ◌∷◌, length, Bool, Result, Ok, Err}
use Rattle.nfc_base.specs.Trace.{Turn}
use Rattle.air_core.specs.World.{Machine}
use Rattle.air_core.specs.Turn.{Air}
use Rattle.nfca_poll.specs.declared.fault.PollFault.{PollFault}
use Rattle.nfca_poll.specs.declared.fault.PollFault.TheVariants.{Disturbed, BadAnswer}
use Rattle.nfca_poll.specs.ByHeard.{turns_since}
use Rattle.nfca_poll.specs.Crowd.{Each}
use Rattle.t5t_tag.specs.Store.{T5State, id_size}
use Rattle.nfcv_poll.specs.Passes.{passes, noise_in, IsShort}
use Rattle.nfcv_poll.specs.Tags.{IsOneOf, StepAsTags, tag_ids}

-- each is another one than all behind it
abbrev pub AreOwn : List (List ℕ) → Type 0
AreOwn [] = Unit {0}
AreOwn (i ∷ is) = Each (λ j. j ≡ i → ⊥) is × AreOwn is

-- how many tags a crowd has at most
abbrev pub most_tags : ℕ
most_tags = 16

-- The identifiers of a crowd: at most sixteen, each of eight bytes, and each another one.
pub record AreCrowd (ids : List (List ℕ)) : Type 0 where
  pub few : length ids ≤ most_tags
  pub long : Each (λ i. length i ≡ id_size) ids
  pub bytes : Each (λ i. Each (λ b. b < 256) i) ids
  pub own : AreOwn ids

-- What a search comes to over a crowd. It never fails by a bad answer, and each pass is short.
-- Where a pass met no noise nothing is missing; and it is disturbed only where each pass met some.
pub record CrowdV (ids : List (List ℕ)) (r : Result (List (List ℕ)) PollFault) (ts : List Turn) : Type 0 where
  pub never_bad : r ≡ Err BadAnswer → ⊥
  pub few : Each IsShort (passes ts)
  pub quiet : (found : List (List ℕ)) → r ≡ Ok found → Each (λ p. noise_in p ≡ 0 → Each (λ i. IsOneOf i found) ids)
      (passes ts)
  pub disturbed : r ≡ Err Disturbed → Each (λ p. 1 ≤ noise_in p) (passes ts)

-- So it is in a field whose NFC-V listeners step as the tags of a crowd.
abbrev pub SearchesCrowd : {L : Type 0} → Machine L → Air L → Result (List (List ℕ)) PollFault → Air L → Type 0
SearchesCrowd {L = L} m old r new =
    (tag : L → T5State) (lit : L → Bool) → StepAsTags m tag lit
    → AreCrowd (tag_ids m tag old.listeners)
    → CrowdV (tag_ids m tag old.listeners) r (turns_since old new)
