-- What contracts see of a link, and what ends one.
use Rattle.std.specs.Prelude.{◌≡◌, ℕ, ◌<◌, ◌≤◌, ◌⊎◌, List, [], ◌∷◌, ◌++◌, Bool, true, false, Option, Some, None, Result}
use Rattle.std.specs.Prelude.{Err}
use Rattle.nfc_base.specs.declared.carrier.EndCause.{EndCause}
use Rattle.nfc_base.specs.declared.carrier.EndCause.TheVariants.{FieldLost, SixBad, Protocol, Memory}
use Rattle.nfc_base.specs.declared.carrier.LinkEnd.{LinkEnd}

-- What may end a link, counted: losses of the field, waits with six bad receptions, and whole frames heard that
-- are no allowed answer.
pub record Counts : Type 0 where
  pub breaks : ℕ
  pub six_bad : ℕ
  pub odd : ℕ

-- no count falls
pub record CountsOn (old new : Counts) : Type 0 where
  pub breaks : old.breaks ≤ new.breaks
  pub six_bad : old.six_bad ≤ new.six_bad
  pub odd : old.odd ≤ new.odd

-- the count of this cause rose, or the field was dark before; want of memory needs no count
abbrev pub HasCause : Bool → Counts → Counts → EndCause → Type 0
HasCause dark old new FieldLost = (old.breaks < new.breaks) ⊎ (dark ≡ true)
HasCause dark old new SixBad = old.six_bad < new.six_bad
HasCause dark old new Protocol = old.odd < new.odd
HasCause dark old new Memory = Unit {0}

-- What contracts see of a carrier: by which cause it is over, whether the field is dark, the counts, how many of its
-- transmissions didn't pass, the payloads handed to the far end since it was made, and the payload of its last swap.
pub record CarrierView : Type 0 where
  pub over : Option EndCause
  pub dark : Bool
  pub counts : Counts
  pub noise : ℕ
  pub handed : List (List ℕ)
  pub last : Option (List ℕ)

-- A swap on a link that wasn't over: the payload is the last one; neither a count nor the noise fell.
pub record Swaps (old new : CarrierView) (out : List ℕ) : Type 0 where
  pub begun : old.over ≡ None
  pub last : new.last ≡ Some out
  pub counts : CountsOn old.counts new.counts
  pub noise : old.noise ≤ new.noise

-- The far end was handed the payload, made one whole step and gave this reply. No count rose.
pub record SwapDone {A : Type 0} (steps : A → List ℕ → List ℕ → A → Type 0) (old new : CarrierView) (out reply : List ℕ)
    (far after : A) : Type 0 where
  pub swaps : Swaps old new out
  pub stays : new.over ≡ None
  pub lit : new.dark ≡ false
  pub counts : new.counts ≡ old.counts
  pub handed : new.handed ≡ old.handed ++ out ∷ []
  pub step : steps far out reply after

-- What became of the far end where a swap fails: one whole step where `answered`; none, or one that its own want
-- of memory left unfinished, where not. The payload was handed over exactly where it stepped.
abbrev pub FarLeft : {A : Type 0} → (A → List ℕ → List ℕ → A → Type 0) → (A → List ℕ → A → Type 0) → Bool → EndCause
    → List (List ℕ) → List (List ℕ) → List ℕ → A → A → Type 0
FarLeft steps stops true cause old new out far after =
    ((reply : List ℕ) × steps far out reply after) × (new ≡ old ++ out ∷ [])
FarLeft steps stops false cause old new out far after =
    ((after ≡ far) × (new ≡ old)) ⊎ ((cause ≡ Memory) × stops far out after × (new ≡ old ++ out ∷ []))

-- A swap failed by this cause, and the link is over.
pub record SwapFailed {A : Type 0} (steps : A → List ℕ → List ℕ → A → Type 0) (stops : A → List ℕ → A → Type 0)
    (old new : CarrierView) (out : List ℕ) (e : LinkEnd) (far after : A) : Type 0 where
  pub swaps : Swaps old new out
  pub over : new.over ≡ Some e.cause
  pub why : HasCause old.dark old.counts new.counts e.cause
  pub left : FarLeft steps stops e.answered e.cause old.handed new.handed out far after

-- A swap on a link that was over: the same cause, the far end makes no step, and nothing changes.
pub record SwapRefused {A V : Type 0} (old new : CarrierView) (c : EndCause) (far after : A) (result : Result V LinkEnd)
    : Type 0 where
  pub fault : result ≡ Err (record { cause = c; answered = false })
  pub same : new ≡ old
  pub rests : after ≡ far

-- a swap failed for want of memory
abbrev pub IsMemory : LinkEnd → Type 0
IsMemory e = e.cause ≡ Memory

-- What a far end was asked for over a carrier: a payload, with its reply; or one that its own want of memory left
-- unfinished.
pub data FarStep : Type 0 where
  Stepped : List ℕ → List ℕ → FarStep
  Stopped : List ℕ → FarStep

-- From one state to another a far end made these steps, in order. Nothing follows one that is unfinished.
abbrev pub FarMoved : {A : Type 0} → (A → List ℕ → List ℕ → A → Type 0) → (A → List ℕ → A → Type 0) → List FarStep
    → A → A → Type 0
FarMoved steps stops [] far after = after ≡ far
FarMoved {A} steps stops (Stepped payload reply ∷ rest) far after =
    (mid : A) × steps far payload reply mid × FarMoved steps stops rest mid after
FarMoved steps stops (Stopped payload ∷ rest) far after = stops far payload after × (rest ≡ [])

-- the payload of a step
abbrev pub step_payload : FarStep → List ℕ
step_payload (Stepped payload reply) = payload
step_payload (Stopped payload) = payload

-- what a swap of this payload asked of the far end where it failed
abbrev pub AskedBy : Bool → EndCause → List ℕ → List FarStep → Type 0
AskedBy true cause out did = (reply : List ℕ) × (did ≡ Stepped out reply ∷ [])
AskedBy false cause out did = (did ≡ []) ⊎ ((cause ≡ Memory) × (did ≡ Stopped out ∷ []))

-- A swap with this answer was one swap of its link, in which the far end went by the same steps.
pub record Swapped {C A : Type 0} (swaps : C → List ℕ → List FarStep → C → Type 0)
    (steps : A → List ℕ → List ℕ → A → Type 0)
    (stops : A → List ℕ → A → Type 0) (old : C) (out : List ℕ) (far : A) (new : C) (after : A)
    (asked : List FarStep → Type 0) : Type 0 where
  pub did : List FarStep
  pub link : swaps old out did new
  pub far_moved : FarMoved steps stops did far after
  pub tells : asked did

-- A link came from one state to another: in each of these steps of the far end its payload was swapped once, and
-- nothing else was.
abbrev pub BySwaps : {C : Type 0} → (C → List ℕ → List FarStep → C → Type 0) → List FarStep → C → C → Type 0
BySwaps swaps [] a b = b ≡ a
BySwaps {C} swaps (x ∷ did) a b = (mid : C) × swaps a (step_payload x) (x ∷ []) mid × BySwaps swaps did mid b
