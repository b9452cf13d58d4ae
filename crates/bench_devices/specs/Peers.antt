-- A peer above a listener front (NFCIP-1, ISO/IEC 18092; NFC Forum Digital Protocol and LLCP): the target's end of
-- NFC-DEP, which says of itself what a peer of the bench says. What stands in its NFCID3, and which general bytes it
-- has, are this project's own.
use Rattle.std.specs.Prelude.{◌≡◌, ℕ, ◌-◌, ◌<◌, ◌≤◌, List, ◌++◌, length, replicate, Bool, true, false, not, ◌||◌}
use Rattle.std.specs.Prelude.{if◌then◌else◌, Option, Some, None}
use Rattle.nfc_base.specs.Signal.{Signal}
use Rattle.nfc_base.specs.Far.{FarUse, Untouched, Hands}
use Rattle.nfc_base.specs.TagLinks.{TagState, TagStep}
use Rattle.nfca_poll.specs.declared.kind.Kind.TheVariants as kinds
use Rattle.nfca_poll.specs.declared.upper.UpStep.{UpStep}
use Rattle.nfca_poll.specs.declared.upper.UpStep.TheVariants as steps
use Rattle.nfca_poll.specs.Upper.{UpperMachine}
use Rattle.llcp_pdu.specs.declared.general.LinkParams.{LinkParams}
use Rattle.llcp_pdu.specs.General.{general_bytes, IsMiu}
use Rattle.dep_link.specs.declared.target.TargetStep.{TargetStep}
use Rattle.dep_link.specs.declared.target.TargetStep.TheVariants as target
use Rattle.dep_link.specs.Frames.{air_frame, is_atr_req}
use Rattle.nfc_base.specs.Pieces.{most_busy}
use Rattle.dep_link.specs.Target.{TargetState, TargetTurn, target_table, replied, reply_frame, fresh, darkened}
use Rattle.dep_link.specs.Target.{made_busy}
use Rattle.dep_link.specs.Peers.{target_use}

-- the target's end, and whether ATR_REQ opened a link to it
pub record PeerNear : Type 0 where
  pub target : TargetState
  pub linked : Bool

-- how many bytes NFCID3 has
abbrev pub id3_size : ℕ
id3_size = 10

-- NFCID3 of a peer: its identifier, and zeros behind it
abbrev pub id3_of : List ℕ → List ℕ
id3_of id = id ++ replicate (id3_size - length id) 0

-- what a peer says of its link: LLCP 1.3, its MIU, and the services of link management, discovery and SNEP
abbrev pub peer_params : ℕ → LinkParams
peer_params miu = record { version = 0x13; miu = miu; wks = 0x0013 }

abbrev pub peer_general : ℕ → List ℕ
peer_general miu = general_bytes (peer_params miu)

-- a peer without a link
abbrev pub new_near : List ℕ → ℕ → ℕ → PeerNear
new_near id lr miu = record { target = fresh (id3_of id) lr (peer_general miu); linked = false }

-- What a peer says at a frame, and what it is then.
pub record PeerDid : Type 0 where
  pub says : UpStep
  pub after : PeerNear

-- it said this, and stands so with a link
abbrev pub peer_said : UpStep → TargetState → PeerDid
peer_said says t = record { says = says; after = record { target = t; linked = true } }

-- It has handed a payload over, and answers by the reply of its far end. Without one it says nothing.
abbrev pub delivered : TargetState → Option (List ℕ) → PeerDid
delivered t None = peer_said steps.Quiet t
delivered t (Some r) = peer_said (steps.Reply (air_frame (reply_frame t r))) (replied t r)

-- it does what the target's table says
abbrev pub by_target : TargetState → Option (List ℕ) → TargetStep → PeerDid
by_target t reply target.Quiet = peer_said steps.Quiet t
by_target t reply (target.Reply f) = peer_said (steps.Reply f) t
by_target t reply (target.Restart general f) = peer_said (steps.Reply f) t
by_target t reply (target.Deliver payload) = delivered t reply
by_target t reply (target.Asleep f) = peer_said (steps.Sleep f) t
by_target t reply (target.Released f) = peer_said (steps.Idle f) t

abbrev pub by_turn : TargetTurn → Option (List ℕ) → PeerDid
by_turn x reply = by_target x.state reply x.does

-- Without a link it takes a well-formed ATR_REQ alone, which opens one; from then on the link takes every frame.
abbrev pub takes_frame : PeerNear → Signal → Bool
takes_frame u f = u.linked || is_atr_req f

abbrev pub peer_if : Bool → PeerNear → Signal → Option (List ℕ) → PeerDid
peer_if taken u f reply = if taken then by_turn (target_table u.target f) reply
    else record { says = steps.Foreign; after = u }

abbrev pub peer_did : PeerNear → Signal → Option (List ℕ) → PeerDid
peer_did u f reply = peer_if (takes_frame u f) u f reply

-- A frame that begins a link asks the far end to begin one too, and one that ends a payload hands it over.
abbrev pub asked_if : Bool → PeerNear → Signal → FarUse
asked_if taken u f = if taken then target_use (target_table u.target f).does else Untouched

-- what is volatile takes the link with it
abbrev pub given_up : PeerNear → PeerNear
given_up u = record { target = darkened u.target; linked = false }

abbrev pub peer_machine : UpperMachine PeerNear
peer_machine = record {
  kind = λ u. kinds.Peer;
  handed = λ u f. asked_if (takes_frame u f) u f;
  says = λ u f reply. (peer_did u f reply).says;
  after = λ u f reply. (peer_did u f reply).after;
  cleared = given_up;
}

-- a peer is no tag: it obeys no command
abbrev pub no_commands : TagState → Signal → TagStep
no_commands s f = record { answer = None; after = s }

-- it has no link
abbrev pub no_link : PeerNear → Bool
no_link u = not u.linked

-- its target's end as it was made, which no frame changes
abbrev pub made_near : PeerNear → TargetState
made_near u = darkened u.target

-- An end of a peer with this identifier as it may be made: it says of itself what new peers do, and asks for more time
-- before a reply at most five times, by a value from 1 to 59.
pub record IsMadePeer (id : List ℕ) (t : TargetState) : Type 0 where
  pub lr : ℕ
  pub miu : ℕ
  pub code : lr < 4
  pub size : IsMiu miu
  pub few : t.busy ≤ most_busy
  pub some : 1 ≤ t.times
  pub longest : t.times ≤ 59
  pub made : t ≡ made_busy (fresh (id3_of id) lr (peer_general miu)) t.busy t.times

-- the peer that asks so often for more time before each reply, by this value
abbrev pub near_busy : ℕ → ℕ → PeerNear → PeerNear
near_busy count times u = record { target = made_busy u.target count times; linked = u.linked }

-- What a step of its link does, with the far end: a link that begins, a payload with its reply, or nothing.
abbrev pub Handles : {A : Type 0} → (A → List ℕ → A → Type 0) → (A → List ℕ → List ℕ → A → Type 0) → TargetState
    → TargetStep → A → UpStep → TargetState → A → Type 0
Handles restarts obeys t target.Quiet far s u after = (s ≡ steps.Quiet) × (u ≡ t) × (after ≡ far)
Handles restarts obeys t (target.Reply f) far s u after = (s ≡ steps.Reply f) × (u ≡ t) × (after ≡ far)
Handles restarts obeys t (target.Restart general f) far s u after =
    (s ≡ steps.Reply f) × (u ≡ t) × restarts far general.items after
Handles restarts obeys t (target.Deliver payload) far s u after =
    (r : List ℕ) × obeys far payload.items r after × (length r ≤ 2178) × (s ≡ steps.Reply (air_frame (reply_frame t r)))
    × (u ≡ replied t r)
Handles restarts obeys t (target.Asleep f) far s u after = (s ≡ steps.Sleep f) × (u ≡ t) × (after ≡ far)
Handles restarts obeys t (target.Released f) far s u after = (s ≡ steps.Idle f) × (u ≡ t) × (after ≡ far)

-- A payload stopped the far end for want of memory.
pub record Halts {A : Type 0} (stops : A → List ℕ → A → Type 0) (is_stuck : A → Bool) (t : TargetState)
    (does : TargetStep) (far : A) (u : TargetState) (after : A) : Type 0 where
  pub payload : List ℕ
  pub handed : target_use does ≡ Hands payload
  pub stopped : stops far payload after
  pub stuck : is_stuck after ≡ true
  pub left : u ≡ t
