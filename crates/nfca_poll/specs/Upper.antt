-- The machine above a listener front, which takes the frames of a selected device, and which frames are its own (NFC
-- Forum Digital Protocol; NFC Forum Type 2 Tag).
use Rattle.std.specs.Prelude.{◌≡◌, ℕ, ◌≤◌, List, length, Bool, true, false, ◌||◌, Option, Some, None}
use Rattle.nfc_base.specs.declared.frame.Tech.TheVariants.{A}
use Rattle.nfc_base.specs.Signal.{Signal}
use Rattle.nfc_base.specs.Headed.{is_t2_frame, is_rats}
use Rattle.nfc_base.specs.Far.{FarUse, Untouched, Hands, FarDid}
use Rattle.nfc_base.specs.TagLinks.{TagState, TagStep}
use Rattle.nfca_poll.specs.Calls.{Call, Calls, call_of}
use Rattle.nfca_poll.specs.declared.kind.Kind.{Kind}
use Rattle.nfca_poll.specs.declared.kind.Kind.TheVariants.{T2, T4, Peer}
use Rattle.nfca_poll.specs.declared.upper.UpStep.{UpStep}
use Rattle.nfca_poll.specs.declared.upper.UpStep.TheVariants as steps
use Rattle.nfca_poll.specs.declared.upper.UpKind.{UpKind}
use Rattle.nfca_poll.specs.declared.upper.UpKind.TheVariants as kinds

-- What machines of one type do. At a frame a machine may hand something to the far end; what it says and what it is
-- after are functions of the machine, the frame and the far end's reply, if there was one.
pub record UpperMachine (U : Type 0) : Type 0 where
  pub kind : U → Kind
  pub handed : U → Signal → FarUse
  pub says : U → Signal → Option (List ℕ) → UpStep
  pub after : U → Signal → Option (List ℕ) → U
  pub cleared : U → U

-- The far end did what was asked of it. What the machine says, and what it is after, are these functions of the reply.
pub record UpperStep {U A : Type 0} (restarts : A → List ℕ → A → Type 0) (steps : A → List ℕ → List ℕ → A → Type 0)
    (asked : FarUse) (tells : Option (List ℕ) → UpStep) (leaves : Option (List ℕ) → U) (old : A) (step : UpStep)
    (after : U) (new : A) : Type 0 where
  pub reply : Option (List ℕ)
  pub far : FarDid restarts steps asked old reply new
  pub says : step ≡ tells reply
  pub left : after ≡ leaves reply

-- whether a frame was the machine's, and what it answered
abbrev pub is_taken : UpStep → Bool
is_taken steps.Foreign = false
is_taken steps.Quiet = true
is_taken (steps.Reply g) = true
is_taken (steps.Sleep g) = true
is_taken (steps.Idle g) = true

abbrev pub answer_in : UpStep → Option Signal
answer_in steps.Foreign = None
answer_in steps.Quiet = None
answer_in (steps.Reply g) = Some g
answer_in (steps.Sleep g) = Some g
answer_in (steps.Idle g) = Some g

-- what a machine says that was given a place for its answer
abbrev pub step_at : UpKind → Signal → UpStep
step_at kinds.Foreign place = steps.Foreign
step_at kinds.Quiet place = steps.Quiet
step_at kinds.Reply place = steps.Reply place
step_at kinds.Sleep place = steps.Sleep place
step_at kinds.Idle place = steps.Idle place

-- Which frames are the machine's, by its kind. A Type 2 tag takes READ and WRITE. A Type 4 tag takes RATS, a peer a
-- well-formed ATR_REQ; either opens a link, which takes every frame.
abbrev pub is_own : Kind → Bool → Bool → Signal → Bool
is_own T2 is_open attributes f = is_t2_frame f
is_own T4 is_open attributes f = is_open || is_rats f
is_own Peer is_open attributes f = is_open || attributes

-- What no frame changes of a machine: its kind, and of a tag its step on commands.
pub record StaysOneKind {U : Type 0} (kind : U → Kind) (commands : U → TagState → Signal → TagStep) (old new : U)
    : Type 0 where
  pub same_kind : kind new ≡ kind old
  pub same_commands : commands new ≡ commands old

-- What machines above a front keep to. Of a peer, `attributes` says which frame is a well-formed ATR_REQ.
pub record IsUpper {U : Type 0} (m : UpperMachine U) (store : U → List ℕ) (commands : U → TagState → Signal → TagStep)
    (is_open : U → Bool) (attributes : Signal → Bool) : Type 0 where
  -- the frames that it takes are its own, and all of them
  pub takes : (u : U) (f : Signal) (reply : Option (List ℕ))
      → is_taken (m.says u f reply) ≡ is_own (m.kind u) (is_open u) (attributes f) f
  -- a frame that isn't asks nothing of the far end, and changes nothing
  pub foreign : (u : U) (f : Signal) (reply : Option (List ℕ)) → m.says u f reply ≡ steps.Foreign
      → (m.handed u f ≡ Untouched) × (m.after u f reply ≡ u)
  -- one that is opens the link, if it has none; what is volatile takes the link with it
  pub opens : (u : U) (f : Signal) (reply : Option (List ℕ)) → (m.kind u ≡ T2 → ⊥) → is_taken (m.says u f reply) ≡ true
      → is_open (m.after u f reply) ≡ true
  pub closes : (u : U) → is_open (m.cleared u) ≡ false
  -- a call by which a reader polls is no ATR_REQ, and an open link hears it in silence
  pub no_call : (f : Signal) (c : Call) → call_of f ≡ Calls c → attributes f ≡ false
  pub silent : (u : U) (f : Signal) (c : Call) → is_open u ≡ true → call_of f ≡ Calls c
      → (m.handed u f ≡ Untouched) × (m.says u f None ≡ steps.Quiet)
  -- where a payload was handed over and no reply came, it says nothing
  pub waits : (u : U) (f : Signal) (payload : List ℕ) → m.handed u f ≡ Hands payload → m.says u f None ≡ steps.Quiet
  pub bounded : (u : U) (f : Signal) (payload : List ℕ) → m.handed u f ≡ Hands payload → length payload ≤ 2178
  pub own_tech : (u : U) (f g : Signal) (reply : Option (List ℕ)) → answer_in (m.says u f reply) ≡ Some g → g.tech ≡ A
  -- what stays
  pub step_keeps : (u : U) (f : Signal) (reply : Option (List ℕ)) → StaysOneKind m.kind commands u (m.after u f reply)
  pub clear_keeps : (u : U) → StaysOneKind m.kind commands u (m.cleared u) × (store (m.cleared u) ≡ store u)
