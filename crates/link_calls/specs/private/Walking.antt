-- Payloads that are carried over any link, one after the other, as whoever gives them says by each reply (whatever
-- carries them).
use Rattle.std.specs.Prelude.{◌≡◌, ◌≤◌, ◌⊎◌, ℕ, List, [], ◌∷◌, Bool, Some, None}
use Rattle.nfc_base.specs.Links.{CarrierView, FarStep, Stepped, FarMoved, BySwaps, Swapped, AskedBy}
use Rattle.nfc_base.specs.declared.carrier.EndCause.{EndCause}
use Rattle.nfc_base.specs.declared.carrier.EndCause.TheVariants.{Memory}
use Rattle.link_calls.specs.Walk.{Course, Giver, Underway}

module _ {C A : Type 0} (seen : C → CarrierView) (swaps : C → List ℕ → List FarStep → C → Type 0)
    (steps : A → List ℕ → List ℕ → A → Type 0)
    (stops : A → List ℕ → A → Type 0) where
  -- Nothing was handed over: memory was wanting before.
  pub record WalkRests (link : C) (far : A) (c : EndCause) (now : C) (after : A) : Type 0 where
    pub fault : c ≡ Memory
    pub link_is : now ≡ link
    pub far_is : after ≡ far

  -- The swap of the next payload failed by this cause, and the link is over.
  pub record WalkFails (out : List ℕ) (link : C) (far : A) (c : EndCause) (now : C) (after : A) : Type 0 where
    pub answered : Bool
    pub over : (seen now).over ≡ Some c
    pub noise : (seen link).noise ≤ (seen now).noise
    pub swapped : Swapped swaps steps stops link out far now after (AskedBy answered c out)

  -- The next payload was answered, and as its reply was taken memory was wanting.
  pub record WalkUnread (out : List ℕ) (link : C) (far : A) (c : EndCause) (now : C) (after : A) : Type 0 where
    pub fault : c ≡ Memory
    pub reply : List ℕ
    pub stays : (seen now).over ≡ None
    pub swapped : Swapped swaps steps stops link out far now after (λ did. did ≡ Stepped out reply ∷ [])

module _ {W E : Type 0} (g : Giver W E) where
  -- From one thing that is next to another a far end made these steps: each payload is the next one, and each reply
  -- says what comes behind it.
  abbrev pub ToldSo : Course W E → List FarStep → Course W E → Type 0
  ToldSo from [] to = to ≡ from
  ToldSo (Underway w) (Stepped out reply ∷ did) to = (out ≡ g.gives w) × ToldSo (g.told w reply) did to
  ToldSo _ _ to = ⊥

  module _ {C A : Type 0} (seen : C → CarrierView) (swaps : C → List ℕ → List FarStep → C → Type 0)
      (steps : A → List ℕ → List ℕ → A → Type 0)
      (stops : A → List ℕ → A → Type 0) where
    -- So a link and its far end came from one state to another, each payload in one swap. The link is over where it was
    -- before.
    pub record Walks (from : Course W E) (link : C) (far : A) (to : Course W E) (now : C) (after : A) : Type 0 where
      pub did : List FarStep
      pub told : ToldSo from did to
      pub over : (seen now).over ≡ (seen link).over
      pub swapped : BySwaps swaps did link now
      pub far_moved : FarMoved steps stops did far after

    -- So far it came, and was cut off then, by its link or by want of memory.
    pub record WalkBreaks (from : Course W E) (link : C) (far : A) (c : EndCause) (now : C) (after : A) : Type 0 where
      pub at : W
      pub mid : C
      pub mid_far : A
      pub walks : Walks from link far (Underway at) mid mid_far
      pub cut : WalkRests seen swaps steps stops mid mid_far c now after
          ⊎ (WalkFails seen swaps steps stops (g.gives at) mid mid_far c now after
          ⊎ WalkUnread seen swaps steps stops (g.gives at) mid mid_far c now after)
