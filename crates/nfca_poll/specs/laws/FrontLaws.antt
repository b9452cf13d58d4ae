-- Devices under a listener front keep the laws of listeners.
use Rattle.std.proofs.Common.{◌≡◌, ℕ, ◌≤◌, List, length, Bool, true, false, nat_lt, if◌then◌else◌, Option, Some, None}
use Rattle.std.proofs.Common.{refl, sym, ◌∙◌, ap}
use Rattle.nfc_base.specs.declared.frame.Tech.{Tech}
use Rattle.nfc_base.specs.declared.frame.Tech.TheVariants.{A}
use Rattle.nfc_base.specs.Signal.{Signal, whole_a}
use Rattle.nfc_base.specs.Far.{Untouched, Hands}
use Rattle.nfc_base.specs.TagLinks.{TagState, TagStep, IsAddressedIn}
use Rattle.air_core.specs.Listening.{StaysSame}
use Rattle.nfca_poll.specs.declared.kind.Kind.{Kind}
use Rattle.nfca_poll.specs.declared.kind.Kind.TheVariants.{T2, T4, Peer}
use Rattle.nfca_poll.specs.declared.upper.UpStep.{UpStep}
use Rattle.nfca_poll.specs.declared.upper.UpStep.TheVariants as steps
use Rattle.nfca_poll.specs.Levels.{levels}
use Rattle.nfca_poll.specs.Calls.{Reading, Calls, Other, Sens, All, Slp, Sdd, Sel, call_of}
use Rattle.nfca_poll.specs.Front.{Front, Off, Idle, Sleep, Ready, Active, is_asked, is_taken, sens_res, sel_res}
use Rattle.nfca_poll.specs.Front.{more_levels, front_says, front_next, is_ready, is_active}
use Rattle.nfca_poll.specs.Upper.{UpperMachine, answer_in, IsUpper}
use Rattle.nfca_poll.specs.Fronted.{Fronted, left_at, fronts, plain_answer, plain_after, active_answer, active_after}
use Rattle.nfca_poll.specs.Fronted.{handed_by, answer_by, after_by}
use Rattle.nfca_poll.specs.laws.Resting.{Rests, rests, whole_wakes_none}

-- a front answers by frames of NFC-A
sel_tech : (kind : Kind) → (sel_res kind).tech ≡ A
sel_tech T2 = refl
sel_tech T4 = refl
sel_tech Peer = refl

taken_tech : (kind : Kind) (v : Bool) → (if v then more_levels else sel_res kind).tech ≡ A
taken_tech kind true = refl
taken_tech kind false = sel_tech kind

abbrev tech_in : Option Signal → Tech
tech_in None = A
tech_in (Some g) = g.tech

some_tech : (h g : Signal) → h.tech ≡ A → Some h ≡ Some g → g.tech ≡ A
some_tech h g t e = sym (ap tech_in e) ∙ t

if_tech : (v : Bool) (h g : Signal) → h.tech ≡ A → (if v then Some h else None) ≡ Some g → g.tech ≡ A
if_tech true h g t e = some_tech h g t e
if_tech false h g t e = absurd cc

says_tech : (ls : List (List ℕ)) (kind : Kind) (front : Front) (r : Reading) (g : Signal)
    → front_says ls kind front r ≡ Some g → g.tech ≡ A
says_tech ls kind Off r g e = absurd cc
says_tech ls kind Idle (Calls Sens) g e = some_tech (sens_res (length ls)) g refl e
says_tech ls kind Idle (Calls All) g e = some_tech (sens_res (length ls)) g refl e
says_tech ls kind Idle (Calls Slp) g e = absurd cc
says_tech ls kind Idle (Calls (Sdd level known)) g e = absurd cc
says_tech ls kind Idle (Calls (Sel level bytes)) g e = absurd cc
says_tech ls kind Idle Other g e = absurd cc
says_tech ls kind Sleep (Calls Sens) g e = absurd cc
says_tech ls kind Sleep (Calls All) g e = some_tech (sens_res (length ls)) g refl e
says_tech ls kind Sleep (Calls Slp) g e = absurd cc
says_tech ls kind Sleep (Calls (Sdd level known)) g e = absurd cc
says_tech ls kind Sleep (Calls (Sel level bytes)) g e = absurd cc
says_tech ls kind Sleep Other g e = absurd cc
says_tech ls kind (Ready k starred) (Calls Sens) g e = absurd cc
says_tech ls kind (Ready k starred) (Calls All) g e = absurd cc
says_tech ls kind (Ready k starred) (Calls Slp) g e = absurd cc
says_tech ls kind (Ready k starred) (Calls (Sdd level known)) g e = if_tech (is_asked ls k level known) _ g refl e
says_tech ls kind (Ready k starred) (Calls (Sel level bytes)) g e =
    if_tech (is_taken ls k level bytes) _ g (taken_tech kind (nat_lt k (length ls))) e
says_tech ls kind (Ready k starred) Other g e = absurd cc
says_tech ls kind (Active starred) r g e = absurd cc

module _ {U : Type 0} {m : UpperMachine U} {store : U → List ℕ} {commands : U → TagState → Signal → TagStep}
    {is_open : U → Bool} {attributes : Signal → Bool} (laws : IsUpper m store commands is_open attributes) where
  -- what a front shows of the step on commands is its machine's
  abbrev pub commands_of : Fronted U → TagState → Signal → TagStep
  commands_of d = commands d.upper

  abbrev pub Same : Fronted U → Fronted U → Type 0
  Same d e = StaysSame (fronts m).tech (λ x. x.id) commands_of d e

  -- a machine that gives up what is volatile keeps its kind, its step on commands, and its memory
  pub left_kind : (front next : Front) (u : U) → m.kind (left_at m front next u) ≡ m.kind u
  left_kind Off next u = refl
  left_kind Idle next u = refl
  left_kind Sleep next u = refl
  left_kind (Ready k starred) next u = refl
  left_kind (Active starred) Off u = (laws.clear_keeps u).0.same_kind
  left_kind (Active starred) Idle u = (laws.clear_keeps u).0.same_kind
  left_kind (Active starred) Sleep u = (laws.clear_keeps u).0.same_kind
  left_kind (Active starred) (Ready k other) u = (laws.clear_keeps u).0.same_kind
  left_kind (Active starred) (Active other) u = refl

  left_commands : (front next : Front) (u : U) → commands (left_at m front next u) ≡ commands u
  left_commands Off next u = refl
  left_commands Idle next u = refl
  left_commands Sleep next u = refl
  left_commands (Ready k starred) next u = refl
  left_commands (Active starred) Off u = (laws.clear_keeps u).0.same_commands
  left_commands (Active starred) Idle u = (laws.clear_keeps u).0.same_commands
  left_commands (Active starred) Sleep u = (laws.clear_keeps u).0.same_commands
  left_commands (Active starred) (Ready k other) u = (laws.clear_keeps u).0.same_commands
  left_commands (Active starred) (Active other) u = refl

  pub left_store : (front next : Front) (u : U) → store (left_at m front next u) ≡ store u
  left_store Off next u = refl
  left_store Idle next u = refl
  left_store Sleep next u = refl
  left_store (Ready k starred) next u = refl
  left_store (Active starred) Off u = (laws.clear_keeps u).1
  left_store (Active starred) Idle u = (laws.clear_keeps u).1
  left_store (Active starred) Sleep u = (laws.clear_keeps u).1
  left_store (Active starred) (Ready k other) u = (laws.clear_keeps u).1
  left_store (Active starred) (Active other) u = refl

  active_keeps : (s : UpStep) (u : U) (d : Fronted U) (f : Signal) → commands u ≡ commands d.upper
      → Same d (active_after m s u d f)
  active_keeps steps.Foreign u d f c = record {
    tech' = refl;
    identifier' = refl;
    commands' = left_commands d.front _ d.upper;
  }
  active_keeps steps.Quiet u d f c = record { tech' = refl; identifier' = refl; commands' = c }
  active_keeps (steps.Reply g) u d f c = record { tech' = refl; identifier' = refl; commands' = c }
  active_keeps (steps.Sleep g) u d f c = record {
    tech' = refl;
    identifier' = refl;
    commands' = (laws.clear_keeps u).0.same_commands ∙ c;
  }
  active_keeps (steps.Idle g) u d f c = record {
    tech' = refl;
    identifier' = refl;
    commands' = (laws.clear_keeps u).0.same_commands ∙ c;
  }

  plain_keeps : (d : Fronted U) (f : Signal) → Same d (plain_after m d f)
  plain_keeps d f = record {
    tech' = refl;
    identifier' = refl;
    commands' = left_commands d.front (front_next (levels d.id) d.front (call_of f)) d.upper;
  }

  keeps_by : (front : Front) (d : Fronted U) (f : Signal) (reply : Option (List ℕ))
      → Same d (after_by m front d f reply)
  keeps_by Off d f reply = plain_keeps d f
  keeps_by Idle d f reply = plain_keeps d f
  keeps_by Sleep d f reply = plain_keeps d f
  keeps_by (Ready k starred) d f reply = plain_keeps d f
  keeps_by (Active starred) d f reply = active_keeps (m.says d.upper f reply) (m.after d.upper f reply) d f
      (laws.step_keeps d.upper f reply).same_commands

  pub step_keeps : (d : Fronted U) (f : Signal) (reply : Option (List ℕ)) → Same d ((fronts m).after d f reply)
  step_keeps d f reply = keeps_by d.front d f reply

  pub light_keeps : (d : Fronted U) → Same d ((fronts m).woken d) × (store ((fronts m).woken d).upper ≡ store d.upper)
  light_keeps d = (
    record { tech' = refl; identifier' = refl; commands' = left_commands d.front Idle d.upper },
    left_store d.front Idle d.upper,
  )

  pub dark_keeps : (d : Fronted U) → Same d ((fronts m).darkened d)
      × (store ((fronts m).darkened d).upper ≡ store d.upper)
  dark_keeps d = (
    record { tech' = refl; identifier' = refl; commands' = left_commands d.front Off d.upper },
    left_store d.front Off d.upper,
  )

  -- what is handed over has at most 2,178 bytes
  bounded_by : (front : Front) (d : Fronted U) (f : Signal) (payload : List ℕ) → handed_by m front d f ≡ Hands payload
      → length payload ≤ 2178
  bounded_by Off d f payload h = absurd cc
  bounded_by Idle d f payload h = absurd cc
  bounded_by Sleep d f payload h = absurd cc
  bounded_by (Ready k starred) d f payload h = absurd cc
  bounded_by (Active starred) d f payload h = laws.bounded d.upper f payload h

  pub bounded : (d : Fronted U) (f : Signal) (payload : List ℕ) → (fronts m).handed d f ≡ Hands payload
      → length payload ≤ 2178
  bounded d f payload h = bounded_by d.front d f payload h

  -- answers are of NFC-A
  plain_tech : (d : Fronted U) (f g : Signal) → plain_answer m d f ≡ Some g → g.tech ≡ A
  plain_tech d f g e = says_tech (levels d.id) (m.kind d.upper) d.front (call_of f) g e

  active_tech : (s : UpStep) (d : Fronted U) (f g : Signal) → (answer_in s ≡ Some g → g.tech ≡ A)
      → active_answer m s d f ≡ Some g → g.tech ≡ A
  active_tech steps.Foreign d f g own e = plain_tech d f g e
  active_tech steps.Quiet d f g own e = absurd cc
  active_tech (steps.Reply h) d f g own e = own e
  active_tech (steps.Sleep h) d f g own e = own e
  active_tech (steps.Idle h) d f g own e = own e

  tech_by : (front : Front) (d : Fronted U) (f g : Signal) (reply : Option (List ℕ))
      → answer_by m front d f reply ≡ Some g → g.tech ≡ A
  tech_by Off d f g reply e = plain_tech d f g e
  tech_by Idle d f g reply e = plain_tech d f g e
  tech_by Sleep d f g reply e = plain_tech d f g e
  tech_by (Ready k starred) d f g reply e = plain_tech d f g e
  tech_by (Active starred) d f g reply e = active_tech (m.says d.upper f reply) d f g (laws.own_tech d.upper f g reply)
      e

  pub own_tech : (d : Fronted U) (f g : Signal) (reply : Option (List ℕ)) → (fronts m).answer d f reply ≡ Some g
      → g.tech ≡ (fronts m).tech d
  own_tech d f g reply e = tech_by d.front d f g reply e

module _ {U : Type 0} (m : UpperMachine U) where
  pub dark_rests : (d : Fronted U) → (is_ready ((fronts m).darkened d).front ≡ false)
      × (is_active ((fronts m).darkened d).front ≡ false)
  dark_rests d = (refl, refl)

  -- at rest, a frame of whole bytes
  abbrev AtRest : Fronted U → Signal → Type 0
  AtRest d f = ((fronts m).handed d f ≡ Untouched) × ((fronts m).answer d f None ≡ None)
      × (is_ready ((fronts m).after d f None).front ≡ false) × (is_active ((fronts m).after d f None).front ≡ false)

  rest_by : (front : Front) (id : List ℕ) (u : U) (f : Signal) → Rests (levels id) (m.kind u) front (call_of f)
      → is_active front ≡ false → AtRest (record { id = id; front = front; upper = u }) f
  rest_by Off id u f r a = (refl, r.silent, r.unready, r.inactive)
  rest_by Idle id u f r a = (refl, r.silent, r.unready, r.inactive)
  rest_by Sleep id u f r a = (refl, r.silent, r.unready, r.inactive)
  rest_by (Ready k starred) id u f r a = (refl, r.silent, r.unready, r.inactive)
  rest_by (Active starred) id u f r a = absurd cc

  pub at_rest : (d : Fronted U) (bytes : List ℕ) → (fronts m).tech d ≡ A → is_ready d.front ≡ false
      → is_active d.front ≡ false → AtRest d (whole_a bytes)
  at_rest d bytes t r s =
      rest_by d.front d.id d.upper (whole_a bytes) (rests (levels d.id) (m.kind d.upper) d.front
      (call_of (whole_a bytes)) r s (whole_wakes_none bytes)) s

  -- NFC-A addresses nothing, and none of them is of another technology
  pub ignores : (d : Fronted U) (other : List ℕ) (f : Signal) → IsAddressedIn ((fronts m).tech d) other f
      → (other ≡ d.id → ⊥) → ((fronts m).handed d f ≡ Untouched) × ((fronts m).answer d f None ≡ None)
  ignores d other f to k = absurd to

  pub light_selects : (d : Fronted U) → ((fronts m).tech d ≡ A → ⊥) → is_active ((fronts m).woken d).front ≡ true
  light_selects d other = absurd (other refl)

  pub stays_selected : (d : Fronted U) (f : Signal) (reply : Option (List ℕ)) → ((fronts m).tech d ≡ A → ⊥)
      → is_active d.front ≡ true → is_active ((fronts m).after d f reply).front ≡ true
  stays_selected d f reply other s = absurd (other refl)
