-- Devices under a listener front are listeners of this project, as polling speaks of them.
use Rattle.std.proofs.Common.{◌≡◌, ◌⊎◌, ℕ, List, Bool, true, false, not, None, inl, inr, refl, ◌∙◌, ap}
use Rattle.nfc_base.specs.Signal.{Signal}
use Rattle.nfc_base.specs.Far.{Untouched}
use Rattle.nfc_base.specs.TagLinks.{TagState, TagStep}
use Rattle.nfca_poll.specs.declared.kind.Kind.{Kind}
use Rattle.nfca_poll.specs.declared.upper.UpStep.{UpStep}
use Rattle.nfca_poll.specs.declared.upper.UpStep.TheVariants as steps
use Rattle.nfca_poll.specs.Levels.{levels}
use Rattle.nfca_poll.specs.Calls.{Call, Calls, call_of}
use Rattle.nfca_poll.specs.Front.{Front, Off, Idle, Sleep, Ready, Active, front_next, is_active}
use Rattle.nfca_poll.specs.Upper.{UpperMachine, is_taken, IsUpper}
use Rattle.nfca_poll.specs.laws.OwnFrames.{call_begins, own_no_call}
use Rattle.nfca_poll.specs.laws.FrontLaws.{left_kind}
use Rattle.nfca_poll.specs.Fronted.{Fronted, fronts, left_at, active_answer, active_after}
use Rattle.nfca_poll.specs.Crowd.{StepsByFront, AreOurs}
use Rattle.nfca_poll.specs.AnyStart.{StaysActive, YieldsToCalls, LeavesAtCalls}
use Rattle.nfca_poll.specs.Polled.{ArePolled}

-- what isn't taken is foreign
not_taken : (s : UpStep) → is_taken s ≡ false → s ≡ steps.Foreign
not_taken steps.Foreign e = refl
not_taken steps.Quiet e = absurd cc
not_taken (steps.Reply g) e = absurd cc
not_taken (steps.Sleep g) e = absurd cc
not_taken (steps.Idle g) e = absurd cc

not_open : (v : Bool) → not v ≡ true → v ≡ false
not_open true e = absurd cc
not_open false e = refl

module _ {U : Type 0} (m : UpperMachine U) where
  abbrev pub kind_of : Fronted U → Kind
  kind_of d = m.kind d.upper

  pub steps_by : (front : Front) (id : List ℕ) (u : U) (f : Signal) → is_active front ≡ false
      → StepsByFront (fronts m) (λ d. d.id) kind_of (λ d. d.front) (record { id = id; front = front; upper = u }) f
  steps_by Off id u f i = record {
    untouched = refl;
    says = refl;
    goes = refl;
    same_tech = refl;
    same_id = refl;
    same_kind = refl;
  }
  steps_by Idle id u f i = record {
    untouched = refl;
    says = refl;
    goes = refl;
    same_tech = refl;
    same_id = refl;
    same_kind = refl;
  }
  steps_by Sleep id u f i = record {
    untouched = refl;
    says = refl;
    goes = refl;
    same_tech = refl;
    same_id = refl;
    same_kind = refl;
  }
  steps_by (Ready k starred) id u f i = record {
    untouched = refl;
    says = refl;
    goes = refl;
    same_tech = refl;
    same_id = refl;
    same_kind = refl;
  }
  steps_by (Active starred) id u f i = absurd cc

  abbrev pub fronts_are_ours : AreOurs (fronts m) (λ d. d.id)
  fronts_are_ours = record {
    kind = kind_of;
    front = λ d. d.front;
    steps = λ d f t i. steps_by d.front d.id d.upper f i;
  }

module _ {U : Type 0} {m : UpperMachine U} {store : U → List ℕ} {commands : U → TagState → Signal → TagStep}
    {is_open : U → Bool} {attributes : Signal → Bool} (laws : IsUpper m store commands is_open attributes) where
  -- a machine without a link has this mark
  abbrev pub unlinked : Fronted U → Bool
  unlinked d = not (is_open d.upper)

  -- the call is foreign to the machine: the front takes it
  foreign_to : (starred : Bool) (id : List ℕ) (u : U) (f : Signal) → m.says u f None ≡ steps.Foreign
      → StepsByFront (fronts m) (λ d. d.id) (kind_of m) (λ d. d.front)
      (record { id = id; front = Active starred; upper = u }) f
  foreign_to starred id u f s =
      let d : Fronted U = record { id = id; front = Active starred; upper = u } in
      let after : UpStep → Fronted U = λ x. active_after m x (m.after u f None) d f in
      record {
        untouched = (laws.foreign u f None s).0;
        says = ap (λ x. active_answer m x d f) s;
        goes = ap (λ x. (after x).front) s;
        same_tech = refl;
        same_id = ap (λ x. (after x).id) s;
        same_kind = ap (λ x. m.kind (after x).upper) s ∙ left_kind laws (Active starred)
            (front_next (levels id) (Active starred) (call_of f)) u;
      }

  -- an open link is silent at it
  silent_at : (starred : Bool) (id : List ℕ) (u : U) (f : Signal) → m.handed u f ≡ Untouched
      → m.says u f None ≡ steps.Quiet
      → StaysActive (fronts m) (λ d. d.id) (kind_of m) (λ d. d.front)
      (record { id = id; front = Active starred; upper = u }) f
  silent_at starred id u f h s =
      let d : Fronted U = record { id = id; front = Active starred; upper = u } in
      let after : UpStep → Fronted U = λ x. active_after m x (m.after u f None) d f in
      record {
        untouched = h;
        silent = ap (λ x. active_answer m x d f) s;
        same_front = ap (λ x. (after x).front) s;
        same_tech = refl;
        same_id = ap (λ x. (after x).id) s;
        same_kind = ap (λ x. m.kind (after x).upper) s ∙ (laws.step_keeps u f None).same_kind;
      }

  -- a call is foreign to a machine whose link isn't open
  foreign_call : (u : U) (f : Signal) (c : Call) → call_of f ≡ Calls c → is_open u ≡ false
      → m.says u f None ≡ steps.Foreign
  foreign_call u f c e n =
      not_taken (m.says u f None) (laws.takes u f None ∙ own_no_call (m.kind u) (is_open u) (attributes f) f
      (call_begins f c e) n (laws.no_call f c e))

  abbrev Yields : Front → List ℕ → U → Signal → Type 0
  Yields front id u f =
      StepsByFront (fronts m) (λ d. d.id) (kind_of m) (λ d. d.front) (record { id = id; front = front; upper = u }) f
      ⊎ StaysActive (fronts m) (λ d. d.id) (kind_of m) (λ d. d.front) (record { id = id; front = front; upper = u }) f

  yields_by : (front : Front) (id : List ℕ) (u : U) (f : Signal) (c : Call) (v : Bool) → is_open u ≡ v
      → is_active front ≡ true → call_of f ≡ Calls c → Yields front id u f
  yields_by Off id u f c v o i e = absurd cc
  yields_by Idle id u f c v o i e = absurd cc
  yields_by Sleep id u f c v o i e = absurd cc
  yields_by (Ready k starred) id u f c v o i e = absurd cc
  yields_by (Active starred) id u f c true o i e = let q = laws.silent u f c o e in
      inr (silent_at starred id u f q.0 q.1)
  yields_by (Active starred) id u f c false o i e = inl (foreign_to starred id u f (foreign_call u f c e o))

  pub fronts_yield : YieldsToCalls (fronts_are_ours m)
  fronts_yield d f c t i e = yields_by d.front d.id d.upper f c (is_open d.upper) refl i e

  left_unlinked : (starred : Bool) (next : Front) (u : U) → not (is_open u) ≡ true
      → not (is_open (left_at m (Active starred) next u)) ≡ true
  left_unlinked starred Off u n = ap not (laws.closes u)
  left_unlinked starred Idle u n = ap not (laws.closes u)
  left_unlinked starred Sleep u n = ap not (laws.closes u)
  left_unlinked starred (Ready k other) u n = ap not (laws.closes u)
  left_unlinked starred (Active other) u n = n

  leaves_by : (front : Front) (id : List ℕ) (u : U) (f : Signal) (c : Call) → not (is_open u) ≡ true
      → call_of f ≡ Calls c
      → (is_active front ≡ true → StepsByFront (fronts m) (λ d. d.id) (kind_of m) (λ d. d.front)
      (record { id = id; front = front; upper = u }) f)
      × (not (is_open ((fronts m).after (record { id = id; front = front; upper = u }) f None).upper) ≡ true)
  leaves_by Off id u f c n e = ((λ a. absurd cc), n)
  leaves_by Idle id u f c n e = ((λ a. absurd cc), n)
  leaves_by Sleep id u f c n e = ((λ a. absurd cc), n)
  leaves_by (Ready k starred) id u f c n e = ((λ a. absurd cc), n)
  leaves_by (Active starred) id u f c n e =
      let d : Fronted U = record { id = id; front = Active starred; upper = u } in
      let s : m.says u f None ≡ steps.Foreign = foreign_call u f c e (not_open (is_open u) n) in (
        (λ a. foreign_to starred id u f s),
        ap (λ x. not (is_open (active_after m x (m.after u f None) d f).upper)) s
            ∙ left_unlinked starred (front_next (levels id) (Active starred) (call_of f)) u n,
      )

  -- those without a link leave the state Active at calls
  pub fronts_leave : LeavesAtCalls (fronts_are_ours m) unlinked
  fronts_leave d f c t n e = leaves_by d.front d.id d.upper f c n e

  -- a reset wakes them, and takes their links
  pub dark_unlinked : (front : Front) (u : U) → (is_active front ≡ true) ⊎ (not (is_open u) ≡ true)
      → not (is_open (left_at m front Off u)) ≡ true
  dark_unlinked Off u (inl a) = absurd cc
  dark_unlinked Off u (inr n) = n
  dark_unlinked Idle u (inl a) = absurd cc
  dark_unlinked Idle u (inr n) = n
  dark_unlinked Sleep u (inl a) = absurd cc
  dark_unlinked Sleep u (inr n) = n
  dark_unlinked (Ready k starred) u (inl a) = absurd cc
  dark_unlinked (Ready k starred) u (inr n) = n
  dark_unlinked (Active starred) u tidy = ap not (laws.closes u)

  -- Devices under a front are polled as this project's listeners are.
  abbrev pub fronts_are_polled : ArePolled (fronts m) (λ d. d.id)
  fronts_are_polled = record {
    ours = fronts_are_ours m;
    yields = fronts_yield;
    unlinked = unlinked;
    leaves = fronts_leave;
    same_tech = λ d. refl;
    wakes = λ d t tidy. record {
      idle = refl;
      no_link = dark_unlinked d.front d.upper tidy;
      same_id = refl;
      same_kind = left_kind laws d.front Off d.upper;
    };
  }
