-- What is known while payloads are carried over a link, whoever gives them: the link ends by the loss of the field exactly where a Break was used;
-- and it asks frames of whole bytes alone.
use Rattle.std.proofs.Common.{◌≡◌, ◌<◌, List, [], ◌∷◌, ◌++◌, refl, sym, subst}
use Rattle.nfc_base.specs.declared.carrier.EndCause.TheVariants as cause
use Rattle.nfc_base.specs.declared.event.Heard.{Heard}
use Rattle.nfc_base.specs.Trace.{breaks}
use Rattle.air_core.specs.Conversation.{AirModel, Note, Lit, Got, Lost, IsDemand, Moment, Going}
use Rattle.air_core.proofs.LostField.{HasLost}
use Rattle.dep_link.specs.declared.initiator.InitStep.{InitStep}
use Rattle.dep_link.specs.declared.initiator.InitStep.TheVariants as steps
use Rattle.dep_link.specs.Initiator.{InitState, init_table}
use Rattle.dep_link.specs.Asking.{Standing, Waits, Rests, Broken, Astray, goes_by, noted}
use Rattle.link_calls.specs.Walk.{Course, Underway, Through, Giver, Walk, Carries, Comes, BrokenBy, Strays, walk_at, walk_carried, walk_noted, walk_on, walk_stand, walk_due, walk_due_at}
use Rattle.bench_devices.proofs.reads.CardReadingNotes.{Driven, driven}
use Rattle.bench_devices.proofs.far_ends.SwapLeaves.{IsWholeAt, noted_whole, asks_whole}
use Rattle.bench_world.proofs.open_link.CallNotes.{IsPlainNext, broken_known, known_broken, over_plain, stand_plain}

module _ {W E : Type 0} (g : Giver W E) where
  abbrev IsLostAt : Walk W E → Type 0
  IsLostAt s = ◌≡◌ {A = Walk W E} s (BrokenBy cause.FieldLost)

  at_never : (to : Course W E) (i : InitState) → IsLostAt (walk_at g to i) → ⊥
  at_never (Underway w) i e = cc
  at_never (Through x) i e = cc

  goes_never : (w : W) (i : InitState) (d : InitStep) → IsLostAt (walk_carried g w (goes_by i d)) → ⊥
  goes_never w i (steps.Send f) e = cc
  goes_never w i (steps.Finished reply) e = at_never (g.told w reply.items) i e
  goes_never w i steps.SixBad e = cc
  goes_never w i steps.Protocol e = cc

  got_never : (s : Walk W E) (h : Heard) → IsLostAt (walk_noted g s (Got h)) → ⊥
  got_never (Carries w (Waits i f)) h e = goes_never w (init_table i h).state (init_table i h).does e
  got_never (Carries w (Rests i reply)) h e = cc
  got_never (Carries w (Broken x)) h e = cc
  got_never (Carries w Astray) h e = cc
  got_never (Comes to i) h e = cc
  got_never (BrokenBy x) h e = cc
  got_never Strays h e = cc

  lit_never : (s : Walk W E) → IsLostAt (walk_noted g s Lit) → ⊥
  lit_never (Carries w (Waits i f)) e = cc
  lit_never (Carries w (Rests i reply)) e = cc
  lit_never (Carries w (Broken x)) e = cc
  lit_never (Carries w Astray) e = cc
  lit_never (Comes to i) e = cc
  lit_never (BrokenBy x) e = cc
  lit_never Strays e = cc

  -- one that is broken so knows the loss
  broken_lost : (ns : List Note) (s : Walk W E) → (IsLostAt s → ⊥) → IsLostAt (walk_on g s ns) → HasLost ns
  broken_lost [] s never e = absurd (never e)
  broken_lost (Lost ∷ ns) s never e = tt
  broken_lost (Lit ∷ ns) s never e = broken_lost ns (walk_noted g s Lit) (lit_never s) e
  broken_lost (Got h ∷ ns) s never e = broken_lost ns (walk_noted g s (Got h)) (got_never s h) e

  -- something is due before each note
  abbrev DrivenAt : Walk W E → List Note → Type 0
  DrivenAt s [] = Unit {0}
  DrivenAt s (n ∷ ns) = IsDemand (walk_due_at s) × DrivenAt (walk_noted g s n) ns

  walk_more : (s : Walk W E) (before : List Note) (n : Note) → walk_on g s (before ++ n ∷ []) ≡ walk_noted g (walk_on g s before) n
  walk_more s [] n = refl
  walk_more s (b ∷ before) n = walk_more (walk_noted g s b) before n

  drives : (s : Walk W E) (before ns : List Note) → Driven (λ ks. walk_due_at (walk_on g s ks)) before ns → DrivenAt (walk_on g s before) ns
  drives s before [] d = tt
  drives s before (n ∷ ns) d = (d.0, subst (λ x. DrivenAt x ns) (walk_more s before n) (drives s (before ++ n ∷ []) ns d.1))

  -- nothing is due any more behind the loss
  lost_breaks : (ns : List Note) (s : Walk W E) → DrivenAt s ns → HasLost ns → IsLostAt (walk_on g s ns)
  lost_breaks [] s d l = absurd l
  lost_breaks (n ∷ ns) (Comes to i) d l = absurd d.0
  lost_breaks (n ∷ ns) (BrokenBy x) d l = absurd d.0
  lost_breaks (n ∷ ns) Strays d l = absurd d.0
  lost_breaks (n ∷ ns) (Carries w (Rests i reply)) d l = absurd d.0
  lost_breaks (n ∷ ns) (Carries w (Broken x)) d l = absurd d.0
  lost_breaks (n ∷ ns) (Carries w Astray) d l = absurd d.0
  lost_breaks (Lit ∷ ns) (Carries w (Waits i f)) d l = lost_breaks ns (walk_noted g (Carries w (Waits i f)) Lit) d.1 l
  lost_breaks (Got h ∷ ns) (Carries w (Waits i f)) d l = lost_breaks ns (walk_noted g (Carries w (Waits i f)) (Got h)) d.1 l
  lost_breaks (Lost ∷ []) (Carries w (Waits i f)) d l = refl
  lost_breaks (Lost ∷ n ∷ ns) (Carries w (Waits i f)) d l = absurd d.1.0

  module _ {X : Type 0} (m : AirModel X) (from : Course W E) (i : InitState) (a b : Moment X) (ns : List Note) (k : Going m (walk_due g from i) a b ns) where
    pub walk_lost : 0 < breaks k.events → walk_stand g from i ns ≡ BrokenBy cause.FieldLost
    walk_lost some =
        lost_breaks ns (walk_at g from i) (drives (walk_at g from i) [] ns (driven m (walk_due g from i) a b ns k)) (broken_known m (walk_due g from i) a b ns k some)

    pub walk_broken : walk_stand g from i ns ≡ BrokenBy cause.FieldLost → 0 < breaks k.events
    walk_broken e = known_broken k.events (subst HasLost (sym k.known) (broken_lost ns (walk_at g from i) (at_never from i) e))

  -- It asks frames of whole bytes of NFC-A, and no reset.
  abbrev IsWholeWalk : Walk W E → Type 0
  IsWholeWalk (Carries w s) = IsWholeAt s
  IsWholeWalk (Comes to i) = Unit {0}
  IsWholeWalk (BrokenBy x) = Unit {0}
  IsWholeWalk Strays = Unit {0}

  at_whole : (to : Course W E) (i : InitState) → IsWholeWalk (walk_at g to i)
  at_whole (Underway w) i = asks_whole i (g.gives w)
  at_whole (Through x) i = tt

  carried_whole : (w : W) (s : Standing) → IsWholeAt s → IsWholeWalk (walk_carried g w s)
  carried_whole w (Waits i f) h = h
  carried_whole w (Rests i reply) h = at_whole (g.told w reply) i
  carried_whole w (Broken x) h = tt
  carried_whole w Astray h = tt

  walk_whole : (s : Walk W E) (n : Note) → IsWholeWalk s → IsWholeWalk (walk_noted g s n)
  walk_whole (Carries w s) n h = carried_whole w (noted s n) (noted_whole s n)
  walk_whole (Comes to i) n h = tt
  walk_whole (BrokenBy x) n h = tt
  walk_whole Strays n h = tt

  on_whole : (ns : List Note) (s : Walk W E) → IsWholeWalk s → IsWholeWalk (walk_on g s ns)
  on_whole [] s h = h
  on_whole (n ∷ ns) s h = on_whole ns (walk_noted g s n) (walk_whole s n h)

  plain_at : (s : Walk W E) → IsWholeWalk s → IsPlainNext (walk_due_at s)
  plain_at (Carries w s) h = stand_plain s h
  plain_at (Comes to i) h = over_plain
  plain_at (BrokenBy x) h = over_plain
  plain_at Strays h = over_plain

  pub walks_plain : (from : Course W E) (i : InitState) (ns : List Note) → IsPlainNext (walk_due g from i ns)
  walks_plain from i ns = plain_at (walk_on g (walk_at g from i) ns) (on_whole ns (walk_at g from i) (at_whole from i))
