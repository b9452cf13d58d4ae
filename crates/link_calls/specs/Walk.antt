-- What is due while payloads are carried over a link to a peer, one after the other, by what was heard of them: each
-- payload is one exchange of NFC-DEP, and whoever gives them says by its reply what comes next (NFCIP-1, ISO/IEC
-- 18092).
use Rattle.std.specs.Prelude.{ℕ, List, [], ◌∷◌}
use Rattle.nfc_base.specs.declared.carrier.EndCause.{EndCause}
use Rattle.air_core.specs.Conversation.{Note, Next, Over}
use Rattle.dep_link.specs.Initiator.{InitState}
use Rattle.dep_link.specs.Asking.{Standing, Waits, Rests, Broken, Astray, asks, noted, due_at}

-- What is next: something is under way, or it came to its end, with this.
pub data Course (W E : Type 0) : Type 0 where
  Underway : W → Course W E
  Through : E → Course W E

-- Who gives the payloads: the payload of what is under way, and what its reply makes of it: something that goes on, or
-- what all of it came to.
pub record Giver (W E : Type 0) : Type 0 where
  pub gives : W → List ℕ
  pub told : W → List ℕ → Course W E

-- Where it stands: the payload of what is under way is carried in an exchange that stands so; it came to its end, where
-- the initiator rests; its link ended by a fault; or something was heard that belongs to no exchange.
pub data Walk (W E : Type 0) : Type 0 where
  Carries : W → Standing → Walk W E
  Comes : E → InitState → Walk W E
  BrokenBy : EndCause → Walk W E
  Strays : Walk W E

module _ {W E : Type 0} (g : Giver W E) where
  -- what goes on carries its next payload, at once
  abbrev pub walk_at : Course W E → InitState → Walk W E
  walk_at (Underway w) i = Carries w (asks i (g.gives w))
  walk_at (Through e) i = Comes e i

  -- By where its exchange stands: at a reply it goes on by that.
  abbrev pub walk_carried : W → Standing → Walk W E
  walk_carried w (Waits i f) = Carries w (Waits i f)
  walk_carried w (Rests i reply) = walk_at (g.told w reply) i
  walk_carried w (Broken cause) = BrokenBy cause
  walk_carried w Astray = Strays

  abbrev pub walk_noted : Walk W E → Note → Walk W E
  walk_noted (Carries w s) n = walk_carried w (noted s n)
  walk_noted (Comes e i) n = Strays
  walk_noted (BrokenBy cause) n = Strays
  walk_noted Strays n = Strays

  abbrev pub walk_on : Walk W E → List Note → Walk W E
  walk_on c [] = c
  walk_on c (n ∷ ns) = walk_on (walk_noted c n) ns

  -- Where it stands that began so, on a link whose initiator stood so, once this was heard; and what is due then.
  abbrev pub walk_stand : Course W E → InitState → List Note → Walk W E
  walk_stand from i notes = walk_on (walk_at from i) notes

abbrev pub walk_due_at : {W E : Type 0} → Walk W E → Next
walk_due_at (Carries w s) = due_at s
walk_due_at (Comes e i) = Over
walk_due_at (BrokenBy cause) = Over
walk_due_at Strays = Over

abbrev pub walk_due : {W E : Type 0} → Giver W E → Course W E → InitState → List Note → Next
walk_due g from i notes = walk_due_at (walk_stand g from i notes)
