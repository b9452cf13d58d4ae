-- What is known in a call on the open link: its link ends by the loss of the field exactly where a Break was used; and it asks frames of whole
-- bytes alone.
use Rattle.std.proofs.Common.{◌≡◌, ℕ, zero, suc, ◌+◌, ◌<◌, List, [], ◌∷◌, ◌++◌, Bool, true, false, if◌then◌else◌, Option, Some, None, refl, sym, subst, arith}
use Rattle.nfc_base.specs.declared.event.Event.{Event}
use Rattle.nfc_base.specs.declared.event.Event.TheVariants.{Reset, Request, Answer, Clash}
use Rattle.nfc_base.specs.declared.event.Fate.{Fate}
use Rattle.nfc_base.specs.declared.event.Fate.TheVariants.{Pass, Damage, Lose, Break}
use Rattle.nfc_base.specs.declared.event.Heard.{Heard}
use Rattle.nfc_base.specs.declared.carrier.EndCause.TheVariants as cause
use Rattle.nfc_base.specs.Signal.{Signal, whole_a}
use Rattle.nfc_base.specs.Trace.{breaks, of_break, heard_by}
use Rattle.air_core.specs.Joint.{Joint, Nothing, Single, Clashing}
use Rattle.air_core.specs.Conversation.{AirModel, Note, Lit, Got, Lost, note, Next, Over, LightUp, Asks, IsDemand, Moment, Going, replay, receptions, joint_events, joint_back, turn_events, turn_heard}
use Rattle.air_core.specs.Conversation.{Move, Light, Ask, trace_of}
use Rattle.air_core.proofs.Following.{trace_first, turn_known}
use Rattle.air_core.proofs.LostField.{HasLost, breaks-append}
use Rattle.dep_link.specs.declared.initiator.InitStep.{InitStep}
use Rattle.dep_link.specs.declared.initiator.InitStep.TheVariants as steps
use Rattle.dep_link.specs.Initiator.{InitState, init_table}
use Rattle.dep_link.specs.Asking.{Standing, Waits, Rests, Broken, Astray, goes_by, noted, due_at}
use Rattle.dep_link.specs.Releasing.{rls_frame}
use Rattle.nfc_base.specs.Choosing.{first_number, later_numbers}
use Rattle.snep_core.specs.Talk.{Step, Goes, Ends, GivesUp, Working, payload, replied}
use Rattle.link_calls.specs.CallDue.{CallStanding, Carries, Comes, BrokenBy, Strays, call_at, carried, call_noted, call_on, call_due_at, call_stand, call_due}
use Rattle.link_calls.specs.ClosingDue.{ClosingStanding, Calls, Releasing, Released, closing_at, closing_noted, closing_on, closing_due_at, closing_stand, closing_due}
use Rattle.bench_devices.proofs.reads.CardReadingNotes.{Driven, driven}
use Rattle.bench_devices.proofs.far_ends.SwapLeaves.{IsWholeAt, noted_whole, asks_whole}

-- A Break is known as the loss of the field, over any air.
module _ {W : Type 0} (m : AirModel W) where
  Breaking : List Event → Type 0
  Breaking es = 0 < breaks es → HasLost (receptions es)

  back_breaks : (j : Joint) (y : Fate) → 0 < breaks (joint_events j y) → heard_by Pass (joint_back j y) ≡ None
  back_breaks Nothing y h = absurd (omega (arith, h))
  back_breaks (Single g) Pass h = absurd (omega (arith, h))
  back_breaks (Single g) Damage h = absurd (omega (arith, h))
  back_breaks (Single g) Lose h = absurd (omega (arith, h))
  back_breaks (Single g) Break h = refl
  back_breaks (Clashing g) Pass h = absurd (omega (arith, h))
  back_breaks (Clashing g) Damage h = absurd (omega (arith, h))
  back_breaks (Clashing g) Lose h = absurd (omega (arith, h))
  back_breaks (Clashing g) Break h = refl

  turn_breaks : (w : W) (f : Signal) (x y : Fate) → 0 < breaks (turn_events m w f x y) → turn_heard m w f x y ≡ None
  turn_breaks w f Pass y h = back_breaks (m.joint w f) y (omega (arith, h))
  turn_breaks w f Damage y h = absurd (omega (arith, h))
  turn_breaks w f Lose y h = absurd (omega (arith, h))
  turn_breaks w f Break y h = refl

  abbrev behind : W → Signal → Fate → Fate → List (Move m) → List Event
  behind w f x y ks = trace_of m (replay m w (turn_events m w f x y)) ks

  lost_first : (h : Option Heard) (ns : List Note) → h ≡ None → HasLost (note h ∷ ns)
  lost_first h ns e = let P : Option Heard → Type 0 = λ o. HasLost (note o ∷ ns) in subst P (sym e) tt

  lost_later : (h : Option Heard) (ns : List Note) → HasLost ns → HasLost (note h ∷ ns)
  lost_later None ns l = tt
  lost_later (Some h) ns l = l

  breaks_turn : (w : W) (f : Signal) (x y : Fate) (ks : List (Move m)) → Breaking (behind w f x y ks) → Breaking (turn_events m w f x y ++ behind w f x y ks)
  unfolding Breaking
  breaks_turn w f x y ks later some =
      let t : List Event = turn_events m w f x y in
      let rest : List Event = behind w f x y ks in
      let sum : breaks (t ++ rest) ≡ breaks t + breaks rest = breaks-append t rest in
      subst HasLost (sym (turn_known m w f x y rest (trace_first m (replay m w t) ks))) (by_turn (breaks t) refl sum)
    where
      by_turn : (n : ℕ) → breaks (turn_events m w f x y) ≡ n
          → breaks (turn_events m w f x y ++ behind w f x y ks) ≡ breaks (turn_events m w f x y) + breaks (behind w f x y ks)
          → HasLost (note (turn_heard m w f x y) ∷ receptions (behind w f x y ks))
      by_turn zero n sum = lost_later (turn_heard m w f x y) (receptions (behind w f x y ks)) (later (omega (arith, some, sum, n)))
      by_turn (suc k) n sum = lost_first (turn_heard m w f x y) (receptions (behind w f x y ks)) (turn_breaks w f x y (omega (arith, n)))

  lost_of : (ks : List (Move m)) (w : W) → Breaking (trace_of m w ks)
  unfolding Breaking
  lost_of [] w h = absurd (omega (arith, h))
  lost_of (Light ∷ ks) w h = lost_of ks (m.happens w Reset) h
  lost_of (Ask f x y ∷ ks) w h = by_light (m.lit w) (lost_of ks w) (breaks_turn w f x y ks (lost_of ks (replay m w (turn_events m w f x y)))) h
    where
      by_light : (v : Bool) → Breaking (trace_of m w ks) → Breaking (turn_events m w f x y ++ behind w f x y ks)
          → Breaking ((if v then turn_events m w f x y else []) ++ trace_of m (replay m w (if v then turn_events m w f x y else [])) ks)
      by_light false same turn = same
      by_light true same turn = turn

  pub broken_known : (next : List Note → Next) (a b : Moment W) (ns : List Note) (g : Going m next a b ns) → 0 < breaks g.events → HasLost ns
  unfolding Breaking
  broken_known next a b ns g h =
      let P : List Event → Type 0 = λ es. 0 < breaks es → HasLost (receptions es) in
      subst HasLost g.known (subst P (sym g.turns.made) (lost_of g.turns.moves a.world) h)

-- where the loss of the field is known, a Break was used
more : (x : Fate) (n : ℕ) → 0 < n → 0 < of_break x + n
more x n h = omega (arith, h)

pub known_broken : (es : List Event) → HasLost (receptions es) → 0 < breaks es
known_broken [] h = absurd h
known_broken (Reset ∷ es) h = known_broken es h
known_broken (Answer g y ∷ es) h = more y (breaks es) (known_broken es h)
known_broken (Clash g y ∷ es) h = more y (breaks es) (known_broken es h)
known_broken (Request f Break ∷ es) h = omega arith
known_broken (Request f Damage ∷ es) h = more Damage (breaks es) (known_broken es h)
known_broken (Request f Lose ∷ es) h = more Lose (breaks es) (known_broken es h)
known_broken (Request f Pass ∷ []) h = absurd h
known_broken (Request f Pass ∷ Reset ∷ es) h = more Pass (breaks (Reset ∷ es)) (known_broken (Reset ∷ es) h)
known_broken (Request f Pass ∷ Request g y ∷ es) h = more Pass (breaks (Request g y ∷ es)) (known_broken (Request g y ∷ es) h)
known_broken (Request f Pass ∷ Answer g Pass ∷ es) h = more Pass (breaks (Answer g Pass ∷ es)) (known_broken (Answer g Pass ∷ es) h)
known_broken (Request f Pass ∷ Answer g Damage ∷ es) h = more Pass (breaks (Answer g Damage ∷ es)) (known_broken (Answer g Damage ∷ es) h)
known_broken (Request f Pass ∷ Answer g Lose ∷ es) h = more Pass (breaks (Answer g Lose ∷ es)) (known_broken (Answer g Lose ∷ es) h)
known_broken (Request f Pass ∷ Answer g Break ∷ es) h = omega arith
known_broken (Request f Pass ∷ Clash g Pass ∷ es) h = more Pass (breaks (Clash g Pass ∷ es)) (known_broken (Clash g Pass ∷ es) h)
known_broken (Request f Pass ∷ Clash g Damage ∷ es) h = more Pass (breaks (Clash g Damage ∷ es)) (known_broken (Clash g Damage ∷ es) h)
known_broken (Request f Pass ∷ Clash g Lose ∷ es) h = more Pass (breaks (Clash g Lose ∷ es)) (known_broken (Clash g Lose ∷ es) h)
known_broken (Request f Pass ∷ Clash g Break ∷ es) h = omega arith

-- what isn't broken by the loss of the field
abbrev IsLostAt : CallStanding → Type 0
IsLostAt c = c ≡ BrokenBy cause.FieldLost

at_never : (ns : List ℕ) (to : Step) (i : InitState) → IsLostAt (call_at ns to i) → ⊥
at_never ns (Goes w) i e = cc
at_never ns (Ends jobs l) i e = cc
at_never ns (GivesUp l) i e = cc

goes_never : (w : Working) (ns : List ℕ) (i : InitState) (d : InitStep) → IsLostAt (carried w ns (goes_by i d)) → ⊥
goes_never w ns i (steps.Send f) e = cc
goes_never w ns i (steps.Finished reply) e = at_never (later_numbers ns) (replied (first_number ns) w reply.items) i e
goes_never w ns i steps.SixBad e = cc
goes_never w ns i steps.Protocol e = cc

got_never : (c : CallStanding) (h : Heard) → IsLostAt (call_noted c (Got h)) → ⊥
got_never (Carries (w, ns) (Waits i f)) h e = goes_never w ns (init_table i h).state (init_table i h).does e
got_never (Carries (w, ns) (Rests i reply)) h e = cc
got_never (Carries (w, ns) (Broken x)) h e = cc
got_never (Carries (w, ns) Astray) h e = cc
got_never (Comes to i) h e = cc
got_never (BrokenBy x) h e = cc
got_never Strays h e = cc

lit_never : (c : CallStanding) → IsLostAt (call_noted c Lit) → ⊥
lit_never (Carries (w, ns) (Waits i f)) e = cc
lit_never (Carries (w, ns) (Rests i reply)) e = cc
lit_never (Carries (w, ns) (Broken x)) e = cc
lit_never (Carries (w, ns) Astray) e = cc
lit_never (Comes to i) e = cc
lit_never (BrokenBy x) e = cc
lit_never Strays e = cc

-- a call that is broken so knows the loss
broken_lost : (ns : List Note) (c : CallStanding) → (IsLostAt c → ⊥) → IsLostAt (call_on c ns) → HasLost ns
broken_lost [] c never e = absurd (never e)
broken_lost (Lost ∷ ns) c never e = tt
broken_lost (Lit ∷ ns) c never e = broken_lost ns (call_noted c Lit) (lit_never c) e
broken_lost (Got h ∷ ns) c never e = broken_lost ns (call_noted c (Got h)) (got_never c h) e

-- something is due before each note
abbrev DrivenAt : CallStanding → List Note → Type 0
DrivenAt c [] = Unit {0}
DrivenAt c (n ∷ ns) = IsDemand (call_due_at c) × DrivenAt (call_noted c n) ns

call_more : (c : CallStanding) (before : List Note) (n : Note) → call_on c (before ++ n ∷ []) ≡ call_noted (call_on c before) n
call_more c [] n = refl
call_more c (b ∷ before) n = call_more (call_noted c b) before n

drives : (c : CallStanding) (before ns : List Note) → Driven (λ ks. call_due_at (call_on c ks)) before ns → DrivenAt (call_on c before) ns
drives c before [] d = tt
drives c before (n ∷ ns) d = (d.0, subst (λ x. DrivenAt x ns) (call_more c before n) (drives c (before ++ n ∷ []) ns d.1))

-- nothing is due any more behind the loss
lost_breaks : (ns : List Note) (c : CallStanding) → DrivenAt c ns → HasLost ns → IsLostAt (call_on c ns)
lost_breaks [] c d l = absurd l
lost_breaks (n ∷ ns) (Comes to i) d l = absurd d.0
lost_breaks (n ∷ ns) (BrokenBy x) d l = absurd d.0
lost_breaks (n ∷ ns) Strays d l = absurd d.0
lost_breaks (n ∷ ns) (Carries (w, ks) (Rests i reply)) d l = absurd d.0
lost_breaks (n ∷ ns) (Carries (w, ks) (Broken x)) d l = absurd d.0
lost_breaks (n ∷ ns) (Carries (w, ks) Astray) d l = absurd d.0
lost_breaks (Lit ∷ ns) (Carries (w, ks) (Waits i f)) d l = lost_breaks ns (call_noted (Carries (w, ks) (Waits i f)) Lit) d.1 l
lost_breaks (Got h ∷ ns) (Carries (w, ks) (Waits i f)) d l = lost_breaks ns (call_noted (Carries (w, ks) (Waits i f)) (Got h)) d.1 l
lost_breaks (Lost ∷ []) (Carries (w, ks) (Waits i f)) d l = refl
lost_breaks (Lost ∷ n ∷ ns) (Carries (w, ks) (Waits i f)) d l = absurd d.1.0

module _ {W : Type 0} (m : AirModel W) (numbers : List ℕ) (from : Step) (i : InitState) (a b : Moment W) (ns : List Note) (g : Going m (call_due numbers from i) a b ns) where
  pub call_lost : 0 < breaks g.events → call_stand numbers from i ns ≡ BrokenBy cause.FieldLost
  call_lost some =
      lost_breaks ns (call_at numbers from i) (drives (call_at numbers from i) [] ns (driven m (call_due numbers from i) a b ns g))
      (broken_known m (call_due numbers from i) a b ns g some)

  pub call_broken : call_stand numbers from i ns ≡ BrokenBy cause.FieldLost → 0 < breaks g.events
  call_broken e = known_broken g.events (subst HasLost (sym g.known) (broken_lost ns (call_at numbers from i) (at_never numbers from i) e))

-- So it is where the link is closed.
abbrev IsClosedLost : ClosingStanding → Type 0
IsClosedLost c = c ≡ Calls (BrokenBy cause.FieldLost)

closing_never : (c : CallStanding) → (IsLostAt c → ⊥) → IsClosedLost (closing_at c) → ⊥
closing_never (Comes (Ends jobs l) i) never e = cc
closing_never (Comes (GivesUp l) i) never e = cc
closing_never (Comes (Goes w) i) never e = cc
closing_never (Carries (w, ns) s) never e = cc
closing_never (BrokenBy x) never e = never (let same : Calls (BrokenBy x) ≡ Calls (BrokenBy cause.FieldLost) = e in cc)
closing_never Strays never e = cc

closed_got_never : (c : ClosingStanding) (h : Heard) → IsClosedLost (closing_noted c (Got h)) → ⊥
closed_got_never (Calls c) h e = closing_never (call_noted c (Got h)) (got_never c h) e
closed_got_never (Releasing to) h e = cc
closed_got_never (Released to) h e = cc

closed_lit_never : (c : ClosingStanding) → IsClosedLost (closing_noted c Lit) → ⊥
closed_lit_never (Calls c) e = closing_never (call_noted c Lit) (lit_never c) e
closed_lit_never (Releasing to) e = cc
closed_lit_never (Released to) e = cc

closed_lost : (ns : List Note) (c : ClosingStanding) → (IsClosedLost c → ⊥) → IsClosedLost (closing_on c ns) → HasLost ns
closed_lost [] c never e = absurd (never e)
closed_lost (Lost ∷ ns) c never e = tt
closed_lost (Lit ∷ ns) c never e = closed_lost ns (closing_noted c Lit) (closed_lit_never c) e
closed_lost (Got h ∷ ns) c never e = closed_lost ns (closing_noted c (Got h)) (closed_got_never c h) e

abbrev ClosingDrivenAt : ClosingStanding → List Note → Type 0
ClosingDrivenAt c [] = Unit {0}
ClosingDrivenAt c (n ∷ ns) = IsDemand (closing_due_at c) × ClosingDrivenAt (closing_noted c n) ns

closing_more : (c : ClosingStanding) (before : List Note) (n : Note) → closing_on c (before ++ n ∷ []) ≡ closing_noted (closing_on c before) n
closing_more c [] n = refl
closing_more c (b ∷ before) n = closing_more (closing_noted c b) before n

closing_drives : (c : ClosingStanding) (before ns : List Note) → Driven (λ ks. closing_due_at (closing_on c ks)) before ns → ClosingDrivenAt (closing_on c before) ns
closing_drives c before [] d = tt
closing_drives c before (n ∷ ns) d = (d.0, subst (λ x. ClosingDrivenAt x ns) (closing_more c before n) (closing_drives c (before ++ n ∷ []) ns d.1))

lost_closes : (ns : List Note) (c : ClosingStanding) → ClosingDrivenAt c ns → HasLost ns → IsClosedLost (closing_on c ns)
lost_closes [] c d l = absurd l
lost_closes (Lit ∷ ns) c d l = lost_closes ns (closing_noted c Lit) d.1 l
lost_closes (Got h ∷ ns) c d l = lost_closes ns (closing_noted c (Got h)) d.1 l
lost_closes (Lost ∷ ns) (Calls (Comes to i)) d l = absurd d.0
lost_closes (Lost ∷ ns) (Calls (BrokenBy x)) d l = absurd d.0
lost_closes (Lost ∷ ns) (Calls Strays) d l = absurd d.0
lost_closes (Lost ∷ ns) (Calls (Carries (w, ks) (Rests i reply))) d l = absurd d.0
lost_closes (Lost ∷ ns) (Calls (Carries (w, ks) (Broken x))) d l = absurd d.0
lost_closes (Lost ∷ ns) (Calls (Carries (w, ks) Astray)) d l = absurd d.0
lost_closes (Lost ∷ ns) (Released to) d l = absurd d.0
lost_closes (Lost ∷ []) (Calls (Carries (w, ks) (Waits i f))) d l = refl
lost_closes (Lost ∷ n ∷ ns) (Calls (Carries (w, ks) (Waits i f))) d l = absurd d.1.0
lost_closes (Lost ∷ []) (Releasing to) d l = refl
lost_closes (Lost ∷ n ∷ ns) (Releasing to) d l = absurd d.1.0

module _ {W : Type 0} (m : AirModel W) (numbers : List ℕ) (from : Step) (i : InitState) (a b : Moment W) (ns : List Note) (g : Going m (closing_due numbers from i) a b ns) where
  pub closing_lost : 0 < breaks g.events → closing_stand numbers from i ns ≡ Calls (BrokenBy cause.FieldLost)
  closing_lost some =
      let start : ClosingStanding = closing_at (call_at numbers from i) in
      lost_closes ns start (closing_drives start [] ns (driven m (closing_due numbers from i) a b ns g)) (broken_known m (closing_due numbers from i) a b ns g some)

  pub closing_broken : closing_stand numbers from i ns ≡ Calls (BrokenBy cause.FieldLost) → 0 < breaks g.events
  closing_broken e =
      known_broken g.events (subst HasLost (sym g.known) (closed_lost ns (closing_at (call_at numbers from i)) (closing_never (call_at numbers from i) (at_never numbers from i)) e))

-- A call asks frames of whole bytes of NFC-A, and no reset.
pub record IsPlainNext (n : Next) : Type 0 where
  pub asked : (f : Signal) → n ≡ Asks f → f ≡ whole_a f.bytes
  pub lit : n ≡ LightUp → ⊥

pub over_plain : IsPlainNext Over
over_plain = record { asked = λ f e. absurd cc; lit = λ e. cc }

pub stand_plain : (s : Standing) → IsWholeAt s → IsPlainNext (due_at s)
stand_plain (Waits i f) w = record { asked = w; lit = λ e. cc }
stand_plain (Rests i reply) w = record { asked = w; lit = λ e. cc }
stand_plain (Broken x) w = record { asked = w; lit = λ e. cc }
stand_plain Astray w = record { asked = w; lit = λ e. cc }

abbrev IsWholeCall : CallStanding → Type 0
IsWholeCall (Carries (w, ns) s) = IsWholeAt s
IsWholeCall (Comes to i) = Unit {0}
IsWholeCall (BrokenBy x) = Unit {0}
IsWholeCall Strays = Unit {0}

at_whole : (ns : List ℕ) (to : Step) (i : InitState) → IsWholeCall (call_at ns to i)
at_whole ns (Goes w) i = asks_whole i (payload (first_number ns) w)
at_whole ns (Ends jobs l) i = tt
at_whole ns (GivesUp l) i = tt

carried_whole : (w : Working) (ns : List ℕ) (s : Standing) → IsWholeAt s → IsWholeCall (carried w ns s)
carried_whole w ns (Waits i f) h = h
carried_whole w ns (Rests i reply) h = at_whole (later_numbers ns) (replied (first_number ns) w reply) i
carried_whole w ns (Broken x) h = tt
carried_whole w ns Astray h = tt

call_whole : (c : CallStanding) (n : Note) → IsWholeCall c → IsWholeCall (call_noted c n)
call_whole (Carries (w, ns) s) n h = carried_whole w ns (noted s n) (noted_whole s n)
call_whole (Comes to i) n h = tt
call_whole (BrokenBy x) n h = tt
call_whole Strays n h = tt

on_whole : (ns : List Note) (c : CallStanding) → IsWholeCall c → IsWholeCall (call_on c ns)
on_whole [] c h = h
on_whole (n ∷ ns) c h = on_whole ns (call_noted c n) (call_whole c n h)

call_plain : (c : CallStanding) → IsWholeCall c → IsPlainNext (call_due_at c)
call_plain (Carries (w, ns) s) h = stand_plain s h
call_plain (Comes to i) h = over_plain
call_plain (BrokenBy x) h = over_plain
call_plain Strays h = over_plain

pub calls_plain : (numbers : List ℕ) (from : Step) (i : InitState) (ns : List Note) → IsPlainNext (call_due numbers from i ns)
calls_plain numbers from i ns = call_plain (call_on (call_at numbers from i) ns) (on_whole ns (call_at numbers from i) (at_whole numbers from i))

abbrev IsWholeClosing : ClosingStanding → Type 0
IsWholeClosing (Calls c) = IsWholeCall c
IsWholeClosing (Releasing to) = Unit {0}
IsWholeClosing (Released to) = Unit {0}

closing_whole : (c : CallStanding) → IsWholeCall c → IsWholeClosing (closing_at c)
closing_whole (Comes (Ends jobs l) i) h = tt
closing_whole (Comes (GivesUp l) i) h = tt
closing_whole (Comes (Goes w) i) h = tt
closing_whole (Carries (w, ns) s) h = h
closing_whole (BrokenBy x) h = tt
closing_whole Strays h = tt

closes_whole : (c : ClosingStanding) (n : Note) → IsWholeClosing c → IsWholeClosing (closing_noted c n)
closes_whole (Calls c) n h = closing_whole (call_noted c n) (call_whole c n h)
closes_whole (Releasing to) Lit h = tt
closes_whole (Releasing to) (Got x) h = tt
closes_whole (Releasing to) Lost h = tt
closes_whole (Released to) n h = tt

closing_on_whole : (ns : List Note) (c : ClosingStanding) → IsWholeClosing c → IsWholeClosing (closing_on c ns)
closing_on_whole [] c h = h
closing_on_whole (n ∷ ns) c h = closing_on_whole ns (closing_noted c n) (closes_whole c n h)

closing_plain : (c : ClosingStanding) → IsWholeClosing c → IsPlainNext (closing_due_at c)
closing_plain (Calls c) h = call_plain c h
closing_plain (Releasing to) h = record { asked = λ f e. (let same : rls_frame ≡ f = cc in subst (λ g. g ≡ whole_a g.bytes) same refl); lit = λ e. cc }
closing_plain (Released to) h = over_plain

pub closings_plain : (numbers : List ℕ) (from : Step) (i : InitState) (ns : List Note) → IsPlainNext (closing_due numbers from i ns)
closings_plain numbers from i ns =
    closing_plain (closing_on (closing_at (call_at numbers from i)) ns)
    (closing_on_whole ns (closing_at (call_at numbers from i)) (closing_whole (call_at numbers from i) (at_whole numbers from i)))
