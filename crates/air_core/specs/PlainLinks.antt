-- What contracts see of a link that sends each command as it is, over a field that it borrows. What the tag obeyed and
-- what was answered is read off the field's trace.
use Rattle.std.specs.Prelude.{◌≡◌, ◌⊎◌, ℕ, zero, suc, ◌+◌, ◌*◌, ◌≤◌, List, [], ◌∷◌, ◌++◌, length, drop, map, Bool, true}
use Rattle.std.specs.Prelude.{not, Option, Some, None, Result, IfOk, IfErr, false}
use Rattle.std.specs.List.{filter}
use Rattle.nfc_base.specs.declared.frame.Tech.{Tech}
use Rattle.nfc_base.specs.declared.frame.Tech.TheVariants.{A}
use Rattle.nfc_base.specs.declared.event.Event.{Event}
use Rattle.nfc_base.specs.declared.tag_link.AskFault.{AskFault}
use Rattle.nfc_base.specs.declared.tag_link.AskFault.TheVariants.{FieldLost, SixBad, Memory, Protocol}
use Rattle.nfc_base.specs.Signal.{Signal}
use Rattle.nfc_base.specs.Trace.{Turn, by_fate, turns, heard, is_whole, noise}
use Rattle.nfc_base.specs.Links.{Counts}
use Rattle.nfc_base.specs.TagLinks.{LinkView, plain_state, MayAsk, passed, Leads, IsAnswer, IsFault}
use Rattle.air_core.specs.Joint.{same_tech}
use Rattle.air_core.specs.World.{World, happens, quiet_air}
use Rattle.air_core.specs.Turn.{Air, world, moment}
use Rattle.air_core.specs.Conversation.{Note, Going}
use Rattle.air_core.specs.Waits.{Standing, Asking, Broken, stand, waits_next}
use Rattle.air_core.specs.PlainTags.{plain_kind, HasPlainTag}
use Rattle.air_core.specs.declared.listener.Listener.{Ghosts}

-- the request of a turn reached a tag of this technology
abbrev pub has_reached : Tech → Turn → Bool
has_reached t u = by_fate u.fate (same_tech u.request.tech t) false false

-- the requests that reached a tag of this technology
abbrev pub obeyed_in : Tech → List Event → List Signal
obeyed_in t es = map (λ u. u.request) (filter (has_reached t) (turns es))

-- the commands whose wait ended by a whole answer
abbrev pub answered_in : List Event → List Signal
answered_in es = map (λ u. u.request) (filter (λ u. is_whole (heard u)) (turns es))

-- 1 where the link is over by the cause that is counted
abbrev pub counts_of : Option AskFault → Counts
counts_of None = record { breaks = 0; six_bad = 0; odd = 0 }
counts_of (Some FieldLost) = record { breaks = 1; six_bad = 0; odd = 0 }
counts_of (Some SixBad) = record { breaks = 0; six_bad = 1; odd = 0 }
counts_of (Some Memory) = record { breaks = 0; six_bad = 0; odd = 0 }
counts_of (Some Protocol) = record { breaks = 0; six_bad = 0; odd = 1 }

-- something of the listener at a place
abbrev pub at_place : {L A : Type 0} → (L → A) → A → List L → ℕ → A
at_place f d [] n = d
at_place f d (l ∷ ls) zero = f l
at_place f d (l ∷ ls) (suc n) = at_place f d ls n

-- the tag at a place may be asked this
abbrev pub MayAskAt : {L : Type 0} → Ghosts L → Air L → ℕ → Signal → Type 0
MayAskAt k air place f = MayAsk (plain_kind (at_place k.machine.tech A air.listeners place))
    (at_place k.identifier [] air.listeners place) f

-- Stores that follow others: each is the one before it or the next of the others, and all of these come in their order.
abbrev pub Follows : List ℕ → List (List ℕ) → List (List ℕ) → Type 0
Follows now [] [] = Unit {0}
Follows now [] (y ∷ ys) = ⊥
Follows now (x ∷ xs) [] = (x ≡ now) × Follows now xs []
Follows now (x ∷ xs) (y ∷ ys) = ((x ≡ now) × Follows now xs (y ∷ ys)) ⊎ ((x ≡ y) × Follows y xs ys)

-- the store of the listener at a place after each of some events
abbrev pub stores_after : {L : Type 0} → Ghosts L → ℕ → World L → List Event → List (List ℕ)
stores_after k place w [] = []
stores_after k place w (e ∷ es) = at_place k.store [] (happens k.machine w e).listeners place
    ∷ stores_after k place (happens k.machine w e) es

-- A link: its field, the place of its tag, how long the trace was when the link was made, the last command that was
-- asked while it wasn't over, and by which fault it is over.
pub record PlainSeen (L : Type 0) : Type 0 where
  pub air : Air L
  pub place : ℕ
  pub start : ℕ
  pub last : Option Signal
  pub over : Option AskFault

abbrev pub plain_seen : {L : Type 0} → Air L → ℕ → ℕ → Option Signal → Option AskFault → PlainSeen L
plain_seen air place start last over = record { air = air; place = place; start = start; last = last; over = over }

-- the command that was left without an answer, where the link is over
abbrev pub unanswered : Option AskFault → Option Signal → List Signal
unanswered None last = []
unanswered (Some e) None = []
unanswered (Some e) (Some c) = c ∷ []

-- Where the waits stand of a link that is over, or isn't: all commands were answered, or the last one ended the link.
-- After a lost field it is dark; it was lost in a turn, or was dark before the last command was sent. Six bad
-- receptions and want of memory are told in the light only.
abbrev pub StandsAt : Option AskFault → Bool → Standing → Type 0
StandsAt None lit s = s ≡ Asking 0 []
StandsAt (Some FieldLost) lit s = (lit ≡ false) × (c : Signal)
    × ((s ≡ Broken FieldLost (c ∷ [])) ⊎ (s ≡ Asking 0 (c ∷ [])))
StandsAt (Some SixBad) lit s = (lit ≡ true) × (c : Signal) × (s ≡ Broken SixBad (c ∷ []))
StandsAt (Some Memory) lit s = (lit ≡ true) × (c : Signal) × (bad : ℕ) × (s ≡ Asking bad (c ∷ []))
StandsAt (Some Protocol) lit s = ⊥

module _ {L : Type 0} (k : Ghosts L) where
  abbrev pub since : PlainSeen L → List Event
  since p = drop p.start p.air.trace

  abbrev pub answered_by_link : PlainSeen L → List Signal
  answered_by_link p = answered_in (since p)

  -- the commands that were asked on a link: those that were answered, and the one that ended it
  abbrev pub asked_on : PlainSeen L → List Signal
  asked_on p = answered_by_link p ++ unanswered p.over p.last

  abbrev pub plain_view : PlainSeen L → LinkView
  plain_view p = record {
    kind = plain_kind (at_place k.machine.tech A p.air.listeners p.place);
    identifier = at_place k.identifier [] p.air.listeners p.place;
    step = at_place k.commands (λ s f. record { answer = None; after = s }) p.air.listeners p.place;
    state = plain_state (at_place k.store [] p.air.listeners p.place);
    obeyed = obeyed_in (at_place k.machine.tech A p.air.listeners p.place) (since p);
    answered = answered_in (since p);
    last = p.last;
    over = p.over;
    dark = not p.air.lit;
    counts = counts_of p.over;
    noise = noise (since p);
  }

  -- While a link isn't over, its tag is there and takes commands.
  pub record IsPlainReady (p : PlainSeen L) : Type 0 where
    pub start : p.start ≤ length p.air.trace
    pub tag : HasPlainTag k p.air p.place

  -- what happened to the field from one to the other
  abbrev pub between : PlainSeen L → PlainSeen L → List Event
  between a b = drop (length a.air.trace) b.air.trace

  -- Commands were asked, each in its wait and by at most twelve transmissions, and nothing else happened to the field.
  pub record PlainAsked (a b : PlainSeen L) : Type 0 where
    pub commands : List Signal
    pub notes : List Note
    pub going : Going (quiet_air k.machine) (waits_next commands) (moment a.air) (moment b.air) notes
    pub stands : a.over ≡ None → StandsAt b.over b.air.lit (stand 0 commands notes)
    pub told : asked_on b ≡ asked_on a ++ commands
    pub most : length b.air.trace ≤ length a.air.trace + 12 * length commands

  -- The tag obeyed commands. The stores that it passed by its steps are those that it had after the events, in their
  -- order.
  pub record PlainObeyed (a b : PlainSeen L) : Type 0 where
    pub commands : List Signal
    pub leads : Leads (plain_view a) (plain_view b) commands
    pub images : Follows (plain_view a).state.store (stores_after k a.place (world a.air) (between a b))
        (passed (plain_view a).step (plain_view a).state commands)

  -- What calls do to a link: what was asked in them, and what the tag obeyed. One that is over stays as it is.
  pub record PlainMoves (a b : PlainSeen L) : Type 0 where
    pub same : (b.place ≡ a.place) × (b.start ≡ a.start)
    pub ended : (e : AskFault) → a.over ≡ Some e → b ≡ a
    pub asked : PlainAsked a b
    pub obeyed : PlainObeyed a b

  -- An `ask` that ends so is that of one command, at most: six turns, of a request and an answer each.
  abbrev pub FewSent : PlainSeen L → PlainSeen L → Signal → Result Signal AskFault → Type 0
  FewSent a b c result =
      PlainMoves a b → IfOk result (IsAnswer (plain_view a) (plain_view b) c)
      → IfErr result (IsFault (plain_view a) (plain_view b) c)
      → length b.air.trace ≤ length a.air.trace + 12
