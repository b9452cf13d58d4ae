-- The Type 5 tags of a field, and what a search for them finds under any fates (ISO/IEC 15693-3).
use Rattle.std.specs.Prelude.{◌≡◌, ◌⊎◌, ◌≤◌, ℕ, ◌+◌, List, [], ◌∷◌, ◌++◌, length, Bool, true, if◌then◌else◌, Option}
use Rattle.std.specs.Prelude.{Some, None, Result, Ok, Err}
use Rattle.std.specs.List.{filter_map}
use Rattle.nfc_base.specs.declared.frame.Tech.TheVariants.{V}
use Rattle.nfc_base.specs.Far.{Untouched}
use Rattle.nfc_base.specs.Signal.{Signal}
use Rattle.nfc_base.specs.Trace.{Back, Turn, other_than_pass}
use Rattle.nfc_base.specs.Trace as backs
use Rattle.air_core.specs.Joint.{same_tech}
use Rattle.air_core.specs.World.{Machine}
use Rattle.air_core.specs.Turn.{Air}
use Rattle.nfca_poll.specs.declared.fault.PollFault.{PollFault}
use Rattle.nfca_poll.specs.declared.fault.PollFault.TheVariants.{BadAnswer}
use Rattle.nfca_poll.specs.ByHeard.{turns_since}
use Rattle.nfca_poll.specs.Crowd.{Each}
use Rattle.nfca_poll.specs.Inventory.{inventory_all}
use Rattle.t5t_tag.specs.Step.{t5_answer, t5_after}
use Rattle.t5t_tag.specs.Store.{T5State, id_size, darkened}
use Rattle.nfcv_poll.specs.Finding.{rounds_begun}
use Rattle.nfcv_poll.specs.Search.{most_rounds, questions}

-- one of them is this
abbrev pub IsOneOf : List ℕ → List (List ℕ) → Type 0
IsOneOf i [] = ⊥
IsOneOf i (j ∷ js) = (j ≡ i) ⊎ IsOneOf i js

-- The NFC-V listeners step as Type 5 tags, once light has come to them: which tag each is, and whether it is in the
-- light.
pub record StepAsTags {L : Type 0} (m : Machine L) (tag : L → T5State) (lit : L → Bool) : Type 0 where
  pub woken : (l : L) → m.tech l ≡ V
      → (lit (m.woken (m.darkened l)) ≡ true) × (tag (m.woken (m.darkened l)) ≡ darkened (tag l))
  pub untouched : (l : L) (f : Signal) → m.tech l ≡ V → m.handed l f ≡ Untouched
  pub answers : (l : L) (f : Signal) → m.tech l ≡ V → lit l ≡ true → m.answer l f None ≡ t5_answer (tag l) f
  pub goes : (l : L) (f : Signal) → m.tech l ≡ V → lit l ≡ true
      → (lit (m.after l f None) ≡ true) × (tag (m.after l f None) ≡ t5_after (tag l) f)
  pub woken_tech : (l : L) → m.tech (m.woken (m.darkened l)) ≡ m.tech l
  pub after_tech : (l : L) (f : Signal) → m.tech l ≡ V → m.tech (m.after l f None) ≡ V

-- the identifiers of these tags, in the order of placing
abbrev pub id_if : {L : Type 0} → Machine L → (L → T5State) → L → Option (List ℕ)
id_if m tag l = if same_tech V (m.tech l) then Some (tag l).id else None

abbrev pub tag_ids : {L : Type 0} → Machine L → (L → T5State) → List L → List (List ℕ)
tag_ids m tag ls = filter_map (id_if m tag) ls

-- how many transmissions of a turn had another fate than Pass
abbrev pub noise_back : Back → ℕ
noise_back backs.Nothing = 0
noise_back (backs.Single g x) = other_than_pass x
noise_back (backs.Clashing g x) = other_than_pass x

-- It was asked who is left, by an inventory of every tag that isn't quiet, and the request or its answer met noise.
pub record IsNoisyQuestion (t : Turn) : Type 0 where
  pub asks : t.request ≡ inventory_all
  pub noisy : 1 ≤ other_than_pass t.fate + noise_back t.back

-- So it was at each of the last four turns: they are the questions by which a search ends.
pub record AreNoisyAtLast (ts : List Turn) : Type 0 where
  pub before : List Turn
  pub last : List Turn
  pub parts : ts ≡ before ++ last
  pub four : length last ≡ questions
  pub each : Each IsNoisyQuestion last

-- What is found are tags that are there; and one is missing only where noise met each of the last four questions.
pub record FoundTags (ids found : List (List ℕ)) (ts : List Turn) : Type 0 where
  pub there : Each (λ i. IsOneOf i ids) found
  pub missing : Each (λ i. IsOneOf i found ⊎ AreNoisyAtLast ts) ids

-- It fails by a bad answer only where as many rounds were begun as a pass makes: no frame of a tag is a strange one.
abbrev pub FoundIf : List (List ℕ) → Result (List (List ℕ)) PollFault → List Turn → Type 0
FoundIf ids (Ok found) ts = FoundTags ids found ts
FoundIf ids (Err fault) ts = fault ≡ BadAnswer → most_rounds ≤ rounds_begun ts

-- So a search finds the tags of a field, whatever the fates are.
abbrev pub FindsTags : {L : Type 0} → Machine L → Air L → Result (List (List ℕ)) PollFault → Air L → Type 0
FindsTags {L = L} m old r new =
    (tag : L → T5State) (lit : L → Bool) → StepAsTags m tag lit
    → Each (λ i. length i ≡ id_size) (tag_ids m tag old.listeners)
    → FoundIf (tag_ids m tag old.listeners) r (turns_since old new)
