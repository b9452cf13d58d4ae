-- Two frames of a field with a tag and two peers, computed: the first begins a link with one of the peers, the second
-- hands its far end a payload; then the field is lost. (These devices and far ends stand for this example alone.)
use Rattle.std.specs.Prelude.{◌≡◌, ℕ, List, [], ◌∷◌, ◌++◌, Bool, true, false, if◌then◌else◌, ◌==◌, Option, Some, None}
use Rattle.nfc_base.specs.declared.frame.Tech.TheVariants.{A}
use Rattle.nfc_base.specs.declared.event.Event.TheVariants.{Request, Answer}
use Rattle.nfc_base.specs.declared.event.Fate.TheVariants.{Pass, Break}
use Rattle.nfc_base.specs.Signal.{Signal, whole_a}
use Rattle.nfc_base.specs.Far.{FarUse, Untouched, Restarts, Hands}
use Rattle.air_core.specs.World.{Machine}
use Rattle.air_core.specs.Conversation.{replay, turn_events}
use Rattle.far_air.specs.FarEnds.{FarTable}
use Rattle.far_air.specs.FarWorld.{FarWorld, far_air}

-- a tag, which is silent; or a peer with its name, and whether it has a link
pub data Toy : Type 0 where
  Tag : Toy
  Peer : ℕ → Bool → Toy

abbrev pub has_link : Toy → Bool
has_link Tag = false
has_link (Peer name link) = link

-- A frame begins with the name of a peer. The first one begins a link with the bytes behind the name, and each later
-- one hands them over.
abbrev pub asked_of : ℕ → Bool → List ℕ → FarUse
asked_of name link [] = Untouched
asked_of name link (to ∷ bytes) = if to == name then (if link then Hands bytes else Restarts bytes) else Untouched

-- A peer that is named answers its name, or what its far end replies.
abbrev pub said_by : ℕ → FarUse → Option (List ℕ) → Option Signal
said_by name Untouched reply = None
said_by name (Restarts general) reply = Some (whole_a (name ∷ []))
said_by name (Hands payload) None = None
said_by name (Hands payload) (Some reply) = Some (whole_a reply)

abbrev pub link_after : Bool → FarUse → Bool
link_after link Untouched = link
link_after link (Restarts general) = true
link_after link (Hands payload) = true

abbrev pub toy_handed : Toy → Signal → FarUse
toy_handed Tag f = Untouched
toy_handed (Peer name link) f = asked_of name link f.bytes

abbrev pub toy_answer : Toy → Signal → Option (List ℕ) → Option Signal
toy_answer Tag f reply = None
toy_answer (Peer name link) f reply = said_by name (asked_of name link f.bytes) reply

abbrev pub toy_after : Toy → Signal → Option (List ℕ) → Toy
toy_after Tag f reply = Tag
toy_after (Peer name link) f reply = Peer name (link_after link (asked_of name link f.bytes))

abbrev pub toy_dark : Toy → Toy
toy_dark Tag = Tag
toy_dark (Peer name link) = Peer name false

abbrev pub toys : Machine Toy
toys = record {
  tech = λ l. A;
  handed = toy_handed;
  answer = toy_answer;
  after = toy_after;
  woken = λ l. l;
  darkened = toy_dark;
}

-- A far end keeps the payloads that it took, and has the general bytes of its link. It replies the number, these bytes
-- and the payload.
pub record Box : Type 0 where
  pub kept : List (List ℕ)
  pub general : List ℕ

abbrev pub boxes : FarTable Box
boxes = record {
  restarted = λ b general. record { kept = b.kept; general = general };
  reply = λ b payload n. n ∷ (b.general ++ payload);
  left = λ b payload n. record { kept = b.kept ++ payload ∷ []; general = b.general };
  rested = λ b. record { kept = b.kept; general = [] };
}

abbrev pub toy_field : Bool → Bool → Bool → Option Box → Option Box → List ℕ → FarWorld Toy Box
toy_field lit first second one other ns = record {
  field = record { lit = lit; listeners = Tag ∷ Peer 7 first ∷ Peer 9 second ∷ [] };
  fars = None ∷ one ∷ other ∷ [];
  numbers = ns;
}

abbrev pub box : List (List ℕ) → List ℕ → Option Box
box kept general = Some (record { kept = kept; general = general })

-- the field at first, once peer 7 has a link, once it has handed a payload over, and in the dark
abbrev pub at_first : FarWorld Toy Box
at_first = toy_field true false true (box ((5 ∷ []) ∷ []) []) (box [] (4 ∷ [])) (3 ∷ 1 ∷ [])

abbrev pub with_link : FarWorld Toy Box
with_link = toy_field true true true (box ((5 ∷ []) ∷ []) (70 ∷ [])) (box [] (4 ∷ [])) (3 ∷ 1 ∷ [])

abbrev pub with_payload : FarWorld Toy Box
with_payload = toy_field true true true (box ((5 ∷ []) ∷ (1 ∷ 2 ∷ []) ∷ []) (70 ∷ [])) (box [] (4 ∷ [])) (1 ∷ [])

abbrev pub in_the_dark : FarWorld Toy Box
in_the_dark = toy_field false false false (box ((5 ∷ []) ∷ (1 ∷ 2 ∷ []) ∷ []) []) (box [] []) (1 ∷ [])

abbrev pub first_frame : Signal
first_frame = whole_a (7 ∷ 70 ∷ [])

abbrev pub second_frame : Signal
second_frame = whole_a (7 ∷ 1 ∷ 2 ∷ [])

pub record TwoFrames : Type 0 where
  pub first : turn_events (far_air toys has_link boxes) at_first first_frame Pass Pass
      ≡ Request first_frame Pass ∷ Answer (whole_a (7 ∷ [])) Pass ∷ []
  pub begins : replay (far_air toys has_link boxes) at_first
      (Request first_frame Pass ∷ Answer (whole_a (7 ∷ [])) Pass ∷ []) ≡ with_link
  pub second : turn_events (far_air toys has_link boxes) with_link second_frame Pass Pass
      ≡ Request second_frame Pass ∷ Answer (whole_a (3 ∷ 70 ∷ 1 ∷ 2 ∷ [])) Pass ∷ []
  pub hands : replay (far_air toys has_link boxes) with_link
      (Request second_frame Pass ∷ Answer (whole_a (3 ∷ 70 ∷ 1 ∷ 2 ∷ [])) Pass ∷ []) ≡ with_payload
  pub dark : replay (far_air toys has_link boxes) with_payload (Request first_frame Break ∷ []) ≡ in_the_dark
