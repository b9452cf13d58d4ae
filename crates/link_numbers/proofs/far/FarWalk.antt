-- A walk carries payloads to a peer as its exchanges go.
use Rattle.std.proofs.Common.{◌≡◌, ◌⊎◌, inl, inr, ℕ, ◌≤◌, List, [], ◌∷◌, length, refl, sym, ◌∙◌, ap, subst}
use Rattle.nfc_base.specs.Signal.{Signal, whole_a}
use Rattle.nfc_base.specs.declared.carrier.EndCause.{EndCause}
use Rattle.air_core.specs.Conversation.{Note, Lit, Got, Lost, Over, LightUp, Asks}
use Rattle.dep_link.specs.Asking.{Standing, Waits, Rests, Broken, Astray, goes_by, noted, due_at}
use Rattle.dep_link.specs.Frames.{air_frame}
use Rattle.dep_link.specs.Initiator.{InitState, begun, framed_next, heard_next, init_table, request}
use Rattle.dep_link.specs.Initiator as init
use Rattle.dep_link.specs.Sizes.{limit}
use Rattle.link_calls.specs.Walk.{Course, Giver, Underway, Through, Walk, Carries, Comes, BrokenBy, Strays, walk_at, walk_carried, walk_noted, walk_on, walk_due_at}
use Rattle.link_numbers.proofs.far.FarCourse.{noted_all}

-- a frame of whole bytes of NFC-A
abbrev pub IsWhole : Signal → Type 0
IsWhole f = f ≡ whole_a f.bytes

-- whatever an exchange asks is one
abbrev pub IsWholeAt : Standing → Type 0
IsWholeAt (Waits i f) = IsWhole f
IsWholeAt (Rests i reply) = Unit {0}
IsWholeAt (Broken e) = Unit {0}
IsWholeAt Astray = Unit {0}

goes_whole : (i : InitState) (d : init.Next) → IsWholeAt (goes_by i (framed_next d))
goes_whole i (init.Asks v) = refl
goes_whole i (init.Gives xs) = tt
goes_whole i init.GivesUp = tt
goes_whole i init.Refuses = tt

noted_whole : (s : Standing) (n : Note) → IsWholeAt (noted s n)
noted_whole (Waits i f) Lit = tt
noted_whole (Waits i f) Lost = tt
noted_whole (Waits i f) (Got h) = goes_whole (init_table i h).state (heard_next i h).does
noted_whole (Rests i reply) n = tt
noted_whole (Broken e) n = tt
noted_whole Astray n = tt

module _ {W E : Type 0} (g : Giver W E) where
  -- a walk asks such frames
  abbrev pub IsWholeWalk : Walk W E → Type 0
  IsWholeWalk (Carries w s) = IsWholeAt s
  IsWholeWalk (Comes e i) = Unit {0}
  IsWholeWalk (BrokenBy x) = Unit {0}
  IsWholeWalk Strays = Unit {0}

  pub at_whole : (from : Course W E) (i : InitState) → IsWholeWalk (walk_at g from i)
  at_whole (Underway w) i = refl
  at_whole (Through e) i = tt

  carried_whole : (w : W) (s : Standing) → IsWholeAt s → IsWholeWalk (walk_carried g w s)
  carried_whole w (Waits i f) h = h
  carried_whole w (Rests i reply) h = at_whole (g.told w reply) i
  carried_whole w (Broken x) h = tt
  carried_whole w Astray h = tt

  pub walk_whole : (c : Walk W E) (n : Note) → IsWholeWalk c → IsWholeWalk (walk_noted g c n)
  walk_whole (Carries w s) n h = carried_whole w (noted s n) (noted_whole s n)
  walk_whole (Comes e i) n h = tt
  walk_whole (BrokenBy x) n h = tt
  walk_whole Strays n h = tt

  whole_due : (s : Standing) (f : Signal) → IsWholeAt s → due_at s ≡ Asks f → IsWhole f
  whole_due (Waits i z) f h e = let same : z ≡ f = cc in subst IsWhole same h
  whole_due (Rests i reply) f h e = absurd cc
  whole_due (Broken x) f h e = absurd cc
  whole_due Astray f h e = absurd cc

  pub walk_asks : (c : Walk W E) (f : Signal) → IsWholeWalk c → walk_due_at c ≡ Asks f → IsWhole f
  walk_asks (Carries w s) f h e = whole_due s f h e
  walk_asks (Comes e i) f h k = absurd cc
  walk_asks (BrokenBy x) f h k = absurd cc
  walk_asks Strays f h k = absurd cc

  due_never : (s : Standing) → due_at s ≡ LightUp → ⊥
  due_never (Waits i f) e = cc
  due_never (Rests i reply) e = cc
  due_never (Broken x) e = cc
  due_never Astray e = cc

  -- and no reset
  pub walk_never : (c : Walk W E) → walk_due_at c ≡ LightUp → ⊥
  walk_never (Carries w s) e = due_never s e
  walk_never (Comes e i) k = cc
  walk_never (BrokenBy x) k = cc
  walk_never Strays k = cc

  pub walk_all : (c : Walk W E) (ns : List Note) → walk_on g c ns ≡ noted_all (walk_noted g) c ns
  walk_all c [] = refl
  walk_all c (n ∷ ns) = walk_all (walk_noted g c n) ns

  -- where a walk is at its end
  abbrev pub HasCome : Walk W E → Type 0
  HasCome (Carries w s) = ⊥
  HasCome (Comes e i) = Unit {0}
  HasCome (BrokenBy x) = ⊥
  HasCome Strays = ⊥

  abbrev pub Busy : Walk W E → InitState → Signal → Type 0
  Busy c i f = (w : W) × (c ≡ Carries w (Waits i f))

  abbrev pub Done : Walk W E → InitState → Type 0
  Done c i = (e : E) × (c ≡ Comes e i)

  abbrev pub Off : Walk W E → Type 0
  Off c = (x : EndCause) × (c ≡ BrokenBy x)

  -- what is carried is as long as a payload may be
  abbrev pub Outs : Walk W E → Type 0
  Outs (Carries w s) = length (g.gives w) ≤ limit
  Outs (Comes e i) = Unit {0}
  Outs (BrokenBy x) = Unit {0}
  Outs Strays = Unit {0}

  abbrev Starts : Walk W E → InitState → Type 0
  Starts d j = ((out : List ℕ) × (Outs d → length out ≤ limit) × Busy d (begun j out) (air_frame (request (begun j out).core))) ⊎ Done d j

  pub walk_starts : (from : Course W E) (j : InitState) → Starts (walk_at g from j) j
  walk_starts (Underway w) j = inl (g.gives w, (λ h. h), (w, refl))
  walk_starts (Through e) j = inr (e, refl)

  abbrev pub Goes : Standing → Walk W E → Type 0
  Goes (Waits j f) d = Busy d j f
  Goes (Rests j reply) d = Starts d j
  Goes (Broken x) d = Off d
  Goes Astray d = Unit {0}

  carried_goes : (w : W) (s : Standing) → Goes s (walk_carried g w s)
  carried_goes w (Waits j f) = (w, refl)
  carried_goes w (Rests j reply) = walk_starts (g.told w reply) j
  carried_goes w (Broken x) = (x, refl)
  carried_goes w Astray = tt

  pub walk_goes : (c : Walk W E) (i : InitState) (f : Signal) → Busy c i f → (n : Note) → Goes (noted (Waits i f) n) (walk_noted g c n)
  walk_goes c i f (w, e) n =
      subst (λ z. Goes (noted (Waits i f) n) (walk_noted g z n)) (sym e) (carried_goes w (noted (Waits i f) n))

  pub busy_asks : (c : Walk W E) (i : InitState) (f : Signal) → Busy c i f → walk_due_at c ≡ Asks f
  busy_asks c i f (w, e) = ap walk_due_at e

  pub off_due : (c : Walk W E) (f : Signal) → Off c → walk_due_at c ≡ Asks f → ⊥
  off_due c f (x, e) k = absurd (let z : Over ≡ Asks f = sym (ap walk_due_at e) ∙ k in cc)

  pub done_due : (c : Walk W E) (i : InitState) (f : Signal) → Done c i → walk_due_at c ≡ Asks f → ⊥
  done_due c i f (x, e) k = absurd (let z : Over ≡ Asks f = sym (ap walk_due_at e) ∙ k in cc)

  pub busy_has_more : (c : Walk W E) (i : InitState) (f : Signal) → Busy c i f → HasCome c → ⊥
  busy_has_more c i f (w, e) h = subst HasCome e h

  pub off_has_more : (c : Walk W E) → Off c → HasCome c → ⊥
  off_has_more c (x, e) h = subst HasCome e h
