-- A Type 2 tag under a listener front takes commands as they are sent, so a plain link leads to it (NFC Forum Type 2
-- Tag).
use Rattle.std.proofs.Common.{◌≡◌, ℕ, List, Bool, true, false, not, ◌&&◌, Some, None, refl, sym, ◌∙◌, ap}
use Rattle.nfc_base.specs.Signal.{Signal, whole_a}
use Rattle.nfc_base.specs.Far.{Untouched}
use Rattle.nfc_base.specs.TagLinks.{Type2, TagState, TagStep, plain_state}
use Rattle.air_core.specs.PlainTags.{Takes, PassesOver, IsPlainTag}
use Rattle.air_core.specs.declared.listener.Listener.{Ghosts}
use Rattle.nfca_poll.specs.declared.kind.Kind.{Kind}
use Rattle.nfca_poll.specs.declared.kind.Kind.TheVariants.{T2, T4, Peer}
use Rattle.nfca_poll.specs.declared.upper.UpStep.{UpStep}
use Rattle.nfca_poll.specs.declared.upper.UpStep.TheVariants as steps
use Rattle.nfca_poll.specs.Levels.{levels}
use Rattle.nfca_poll.specs.Calls.{Reading, Calls, Other, Sens, All, Slp, Sdd, Sel, call_of}
use Rattle.nfca_poll.specs.Front.{Front, Off, Idle, Sleep, Ready, Active, home, front_next, is_ready, is_active}
use Rattle.nfca_poll.specs.laws.Resting.{rests, wakes, whole_wakes_none}
use Rattle.nfca_poll.specs.Upper.{UpperMachine, answer_in, IsUpper}
use Rattle.nfca_poll.specs.Fronted.{Fronted, fronts, active_answer, active_after}
use Rattle.nfca_poll.specs.laws.FrontLaws.{left_kind, left_store}

-- whether a machine leaves the state Active with what it says
abbrev pub is_last : UpStep → Bool
is_last steps.Foreign = false
is_last steps.Quiet = false
is_last (steps.Reply g) = false
is_last (steps.Sleep g) = true
is_last (steps.Idle g) = true

abbrev pub is_t2 : Kind → Bool
is_t2 T2 = true
is_t2 T4 = false
is_t2 Peer = false

-- At a frame a machine does what its step on commands says, and stays selected: it asks nothing of a far end, and the
-- command heard again is answered as before.
pub record ObeysStep {U : Type 0} (m : UpperMachine U) (store : U → List ℕ) (commands : U → TagState → Signal → TagStep)
    (u : U) (f : Signal) : Type 0 where
  pub untouched : m.handed u f ≡ Untouched
  pub answer : answer_in (m.says u f None) ≡ (commands u (plain_state (store u)) f).answer
  pub stays : is_last (m.says u f None) ≡ false
  pub after : plain_state (store (m.after u f None)) ≡ (commands u (plain_state (store u)) f).after
  pub again : commands u (commands u (plain_state (store u)) f).after f ≡ commands u (plain_state (store u)) f

-- A Type 2 machine that obeys so each frame of whole bytes.
abbrev pub IsPlainUpper : {U : Type 0} → UpperMachine U → (U → List ℕ) → (U → TagState → Signal → TagStep) → Type 0
IsPlainUpper {U = U} m store commands = (u : U) (f : Signal) → m.kind u ≡ T2 → f ≡ whole_a f.bytes
    → ObeysStep m store commands u f

home_unready : (starred : Bool) → is_ready (home starred) ≡ false
home_unready true = refl
home_unready false = refl

-- no frame of whole bytes makes an active device ready
active_unready : (ls : List (List ℕ)) (starred : Bool) (r : Reading)
    → is_ready (front_next ls (Active starred) r) ≡ false
active_unready ls starred (Calls Sens) = home_unready starred
active_unready ls starred (Calls All) = home_unready starred
active_unready ls starred (Calls Slp) = refl
active_unready ls starred (Calls (Sdd level known)) = home_unready starred
active_unready ls starred (Calls (Sel level bytes)) = home_unready starred
active_unready ls starred Other = home_unready starred

both : (v w : Bool) → (v && w) ≡ true → (v ≡ true) × (w ≡ true)
both true w e = (refl, e)
both false w e = absurd cc

kind_t2 : (k : Kind) → is_t2 k ≡ true → k ≡ T2
kind_t2 T2 e = refl
kind_t2 T4 e = absurd cc
kind_t2 Peer e = absurd cc

whole_wakes : (f : Signal) → f ≡ whole_a f.bytes → wakes (call_of f) ≡ false
whole_wakes f e = ap (λ x. wakes (call_of x)) e ∙ whole_wakes_none f.bytes

module _ {U : Type 0} {m : UpperMachine U} {store : U → List ℕ} {commands : U → TagState → Signal → TagStep}
    {is_open : U → Bool} {attributes : Signal → Bool} (laws : IsUpper m store commands is_open attributes) where
  -- what a front shows as a listener
  abbrev pub front_ghosts : Ghosts (Fronted U)
  front_ghosts = record {
    machine = fronts m;
    identifier = λ d. d.id;
    store = λ d. store d.upper;
    is_ready = λ d. is_ready d.front;
    is_selected = λ d. is_active d.front;
    commands = λ d. commands d.upper;
  }

  -- it is a Type 2 tag, and isn't being selected
  abbrev pub is_plain : Fronted U → Bool
  is_plain d = is_t2 (m.kind d.upper) && not (is_ready d.front)

  -- each frame of whole bytes keeps it so
  active_kept : (s : UpStep) (v : U) (starred : Bool) (id : List ℕ) (u : U) (f : Signal) → m.kind v ≡ m.kind u
      → is_t2 (m.kind u) ≡ true
      → is_plain (active_after m s v (record { id = id; front = Active starred; upper = u }) f) ≡ true
  active_kept steps.Foreign v starred id u f e h =
      let next : Front = front_next (levels id) (Active starred) (call_of f) in
      ap (λ k. is_t2 k && not (is_ready next)) (left_kind laws (Active starred) next u)
      ∙ ap (λ w. is_t2 (m.kind u) && not w) (active_unready (levels id) starred (call_of f)) ∙ ap (λ w. w && true) h
  active_kept steps.Quiet v starred id u f e h = ap (λ k. is_t2 k && true) e ∙ ap (λ w. w && true) h
  active_kept (steps.Reply g) v starred id u f e h = ap (λ k. is_t2 k && true) e ∙ ap (λ w. w && true) h
  active_kept (steps.Sleep g) v starred id u f e h = ap (λ k. is_t2 k && true) ((laws.clear_keeps v).0.same_kind ∙ e)
      ∙ ap (λ w. w && true) h
  active_kept (steps.Idle g) v starred id u f e h = ap (λ k. is_t2 k && true) ((laws.clear_keeps v).0.same_kind ∙ e)
      ∙ ap (λ w. w && true) h

  kept_by : (front : Front) (id : List ℕ) (u : U) (f : Signal) → wakes (call_of f) ≡ false
      → is_plain (record { id = id; front = front; upper = u }) ≡ true
      → is_plain ((fronts m).after (record { id = id; front = front; upper = u }) f None) ≡ true
  kept_by Off id u f w h = ap (λ v. is_t2 (m.kind u) && not v)
      (rests (levels id) (m.kind u) Off (call_of f) refl refl w).unready ∙ h
  kept_by Idle id u f w h = ap (λ v. is_t2 (m.kind u) && not v)
      (rests (levels id) (m.kind u) Idle (call_of f) refl refl w).unready ∙ h
  kept_by Sleep id u f w h = ap (λ v. is_t2 (m.kind u) && not v)
      (rests (levels id) (m.kind u) Sleep (call_of f) refl refl w).unready ∙ h
  kept_by (Ready k starred) id u f w h = absurd (no_ready (m.kind u) h)
    where
      no_ready : (kind : Kind) → (is_t2 kind && false) ≡ true → ⊥
      no_ready T2 e = cc
      no_ready T4 e = cc
      no_ready Peer e = cc
  kept_by (Active starred) id u f w h =
      active_kept (m.says u f None) (m.after u f None) starred id u f (laws.step_keeps u f None).same_kind
      (both (is_t2 (m.kind u)) true h).0

  -- while it is active it takes a command
  active_says : (s : UpStep) (starred : Bool) (id : List ℕ) (u : U) (f : Signal)
      → active_answer m s (record { id = id; front = Active starred; upper = u }) f ≡ answer_in s
  active_says steps.Foreign starred id u f = refl
  active_says steps.Quiet starred id u f = refl
  active_says (steps.Reply g) starred id u f = refl
  active_says (steps.Sleep g) starred id u f = refl
  active_says (steps.Idle g) starred id u f = refl

  active_store : (s : UpStep) (v : U) (starred : Bool) (id : List ℕ) (u : U) (f : Signal) → (s ≡ steps.Foreign → v ≡ u)
      → store (active_after m s v (record { id = id; front = Active starred; upper = u }) f).upper ≡ store v
  active_store steps.Foreign v starred id u f h = left_store laws (Active starred)
      (front_next (levels id) (Active starred) (call_of f)) u ∙ sym (ap store (h refl))
  active_store steps.Quiet v starred id u f h = refl
  active_store (steps.Reply g) v starred id u f h = refl
  active_store (steps.Sleep g) v starred id u f h = (laws.clear_keeps v).1
  active_store (steps.Idle g) v starred id u f h = (laws.clear_keeps v).1

  active_stays : (s : UpStep) (v : U) (starred : Bool) (id : List ℕ) (u : U) (f g : Signal) → is_last s ≡ false
      → answer_in s ≡ Some g
      → is_active (active_after m s v (record { id = id; front = Active starred; upper = u }) f).front ≡ true
  active_stays steps.Foreign v starred id u f g l e = absurd cc
  active_stays steps.Quiet v starred id u f g l e = refl
  active_stays (steps.Reply k) v starred id u f g l e = refl
  active_stays (steps.Sleep k) v starred id u f g l e = absurd cc
  active_stays (steps.Idle k) v starred id u f g l e = absurd cc

  takes_by : (front : Front) (id : List ℕ) (u : U) (f : Signal) → ObeysStep m store commands u f
      → is_active front ≡ true → Takes front_ghosts (record { id = id; front = front; upper = u }) f
  takes_by Off id u f o a = absurd cc
  takes_by Idle id u f o a = absurd cc
  takes_by Sleep id u f o a = absurd cc
  takes_by (Ready k starred) id u f o a = absurd cc
  takes_by (Active starred) id u f o a = record {
    quiet = o.untouched;
    answer = active_says (m.says u f None) starred id u f ∙ o.answer;
    after = ap plain_state (active_store (m.says u f None) (m.after u f None) starred id u f
        (λ e. (laws.foreign u f None e).1)) ∙ o.after;
    again = o.again;
    selected = λ g e. active_stays (m.says u f None) (m.after u f None) starred id u f g o.stays (o.answer ∙ e);
  }

  -- at rest it passes a command over
  passes_by : (front : Front) (id : List ℕ) (u : U) (f : Signal) → wakes (call_of f) ≡ false → is_active front ≡ false
      → not (is_ready front) ≡ true → PassesOver front_ghosts (record { id = id; front = front; upper = u }) f
  passes_by Off id u f w a r = let q = rests (levels id) (m.kind u) Off (call_of f) refl refl w in
      record { quiet = refl; silent = q.silent; store = refl; rests = q.inactive }
  passes_by Idle id u f w a r = let q = rests (levels id) (m.kind u) Idle (call_of f) refl refl w in
      record { quiet = refl; silent = q.silent; store = refl; rests = q.inactive }
  passes_by Sleep id u f w a r = let q = rests (levels id) (m.kind u) Sleep (call_of f) refl refl w in
      record { quiet = refl; silent = q.silent; store = refl; rests = q.inactive }
  passes_by (Ready k starred) id u f w a r = absurd cc
  passes_by (Active starred) id u f w a r = absurd cc

  -- So a device is a tag that takes commands as they are sent: of kind T2, not being selected, under a machine that
  -- obeys its step on commands.
  pub plain_front : IsPlainUpper m store commands → (d : Fronted U) → m.kind d.upper ≡ T2 → is_ready d.front ≡ false
      → IsPlainTag front_ghosts Type2 d.id d
  plain_front plain d kind unready = record {
    holds = is_plain;
    now = ap (λ k. is_t2 k && not (is_ready d.front)) kind ∙ ap not unready;
    kept = λ e f may h. kept_by e.front e.id e.upper f (whole_wakes f may) h;
    takes = λ e f may h a. takes_by e.front e.id e.upper f
        (plain e.upper f (kind_t2 (m.kind e.upper) (both (is_t2 (m.kind e.upper)) (not (is_ready e.front)) h).0) may) a;
    passes = λ e f may h a. passes_by e.front e.id e.upper f (whole_wakes f may) a
        (both (is_t2 (m.kind e.upper)) (not (is_ready e.front)) h).1;
  }
