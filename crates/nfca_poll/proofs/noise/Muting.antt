-- Turns under a far end that answers each payload by an empty one are turns of the mute air.
use Rattle.std.proofs.Common.{◌≡◌, ℕ, List, [], ◌∷◌, Bool, true, false, if◌then◌else◌, Option, Some, None, Ok, Err, refl, ◌∙◌, ap, inl, inr}
use Rattle.nfc_base.specs.declared.far.Mute.{Mute}
use Rattle.nfc_base.specs.Signal.{Signal}
use Rattle.nfc_base.specs.Far.{FarUse, Untouched, Restarts, Hands, FarDid}
use Rattle.nfc_base.specs.Trace.{heard_by}
use Rattle.nfc_base.specs.declared.event.Event.TheVariants.{Request}
use Rattle.nfc_base.specs.declared.event.Fate.{Fate}
use Rattle.nfc_base.specs.declared.event.Fate.TheVariants.{Pass, Damage, Lose, Break}
use Rattle.nfc_base.specs.declared.event.Heard.{Heard}
use Rattle.air_core.specs.Joint.{Joint, Nothing, Single, Clashing, joint}
use Rattle.air_core.specs.World.{Machine, World, hears, stepped}
use Rattle.air_core.specs.Conversation.{Moment, first_fate, later_fates, replay, turn_events, turn_heard, joint_events, joint_back, TurnsTo}
use Rattle.air_core.specs.Listening.{Step}
use Rattle.air_core.specs.Turn.{Air, moment, after_event, brought, HearAll, Passes, TurnBy, TurnIs, Transmits}
use Rattle.air_core.specs.declared.fault.AirFault.TheVariants.{FieldLost, Memory}
use Rattle.air_core.proofs.Quiet.{quiet_always, quiet_turn, quiet_turns_to, endless_goes_on}
use Rattle.nfca_poll.specs.declared.fault.PollFault.TheVariants as faults
use Rattle.nfca_poll.specs.Muted.{mute_reply, muted, mute_air, AskEnds}

-- what a mute far end does
abbrev pub restarts_mute : Mute → List ℕ → Mute → Type 0
restarts_mute old general new = new ≡ old

abbrev pub steps_mute : Mute → List ℕ → List ℕ → Mute → Type 0
steps_mute old payload reply new = (new ≡ old) × (reply ≡ [])

abbrev pub stops_mute : Mute → List ℕ → Mute → Type 0
stops_mute old payload new = ⊥

mute_did : (u : FarUse) (old new : Mute) (reply : Option (List ℕ)) → FarDid restarts_mute steps_mute u old reply new → (new ≡ old) × (reply ≡ mute_reply u)
mute_did Untouched old new reply d = d
mute_did (Restarts general) old new reply d = d
mute_did (Hands payload) old new reply d = (d.1.0, d.3 ∙ ap Some d.1.1)

module _ {L : Type 0} (m : Machine L) where
  meets_muted : (f : Signal) (l : L) (far far' : Mute) (answer : Option Signal) (l' : L) (v : Bool) → hears m l f ≡ v
      → Step restarts_mute steps_mute (if v then m.handed l f else Untouched) (λ reply. if v then m.answer l f reply else None) (λ reply. if v then m.after l f reply else l) far answer l' far'
      → Step restarts_mute steps_mute (if v then Untouched else Untouched) (λ reply. if v then m.answer l f (mute_reply (m.handed l f)) else None)
      (λ reply. if v then m.after l f (mute_reply (m.handed l f)) else l) far answer l' far'
  meets_muted f l far far' answer l' true e s =
      let d : (far' ≡ far) × (s.reply ≡ mute_reply (m.handed l f)) = mute_did (m.handed l f) far far' s.reply s.far in
      record { reply = None; far = (d.0, refl); says = s.says ∙ ap (m.answer l f) d.1; left = s.left ∙ ap (m.after l f) d.1 }
  meets_muted f l far far' answer l' false e s = record { reply = None; far = (s.far.0, refl); says = s.says; left = s.left }

  hear_muted : (f : Signal) (ls : List L) (far : Mute) (said : List Signal) (ls' : List L) (far' : Mute)
      → HearAll m restarts_mute steps_mute f ls far said ls' far' → HearAll (muted m) restarts_mute steps_mute f ls far said ls' far'
  hear_muted f [] far said ls' far' h = h
  hear_muted f (l ∷ ls) far said ls' far' h =
      (h.0, h.1, h.2, h.3, h.4, meets_muted f l far h.3 h.0 h.2 (hears m l f) refl h.5, hear_muted f ls h.3 h.1 h.4 far' h.6, h.7, h.8)

  brought_muted : (a : Air L) (j : Joint) (y : Fate) → brought m a j y ≡ brought (muted m) a j y
  brought_muted a Nothing y = refl
  brought_muted a (Single g) Pass = refl
  brought_muted a (Single g) Damage = refl
  brought_muted a (Single g) Lose = refl
  brought_muted a (Single g) Break = refl
  brought_muted a (Clashing g) Pass = refl
  brought_muted a (Clashing g) Damage = refl
  brought_muted a (Clashing g) Lose = refl
  brought_muted a (Clashing g) Break = refl

  passes_muted : (old : Air L) (f : Signal) (far : Mute) (heard : Option Heard) (new : Air L) (far' : Mute)
      → Passes m restarts_mute steps_mute old f far heard new far' → Passes (muted m) restarts_mute steps_mute old f far heard new far'
  passes_muted old f far heard new far' p = record {
    answers = p.answers;
    listeners = p.listeners;
    all = hear_muted f old.listeners far p.answers p.listeners far' p.all;
    back = p.back;
    left = p.left ∙ brought_muted (after_event old (Request f Pass) (later_fates old.fates) (record { lit = true; listeners = p.listeners })) (joint p.answers) (first_fate (later_fates old.fates));
  }

  by_muted : (x : Fate) (old : Air L) (f : Signal) (far : Mute) (heard : Option Heard) (new : Air L) (far' : Mute)
      → TurnBy m restarts_mute steps_mute x old f far heard new far' → TurnBy (muted m) restarts_mute steps_mute x old f far heard new far'
  by_muted Pass old f far heard new far' p = passes_muted old f far heard new far' p
  by_muted Damage old f far heard new far' p = record { back = p.back; left = p.left; same = p.same }
  by_muted Lose old f far heard new far' p = record { back = p.back; left = p.left; same = p.same }
  by_muted Break old f far heard new far' p = record { back = p.back; left = p.left; same = p.same }

  turn_muted : (old : Air L) (f : Signal) (far : Mute) (heard : Option Heard) (new : Air L) (far' : Mute)
      → TurnIs m restarts_mute steps_mute old f far heard new far' → TurnsTo (mute_air m) (moment old) (moment new) f heard
  turn_muted old f far heard new far' t =
      quiet_turns_to (muted m) old new f far far' heard
      (quiet_turn (muted m) restarts_mute steps_mute old f far heard new far' (quiet_always (muted m) (λ l g. refl) f old.listeners)
      (record { lit = t.lit; by = by_muted (first_fate old.fates) old f far heard new far' t.by }))

  -- a turn of which something was heard leaves the field lit
  nothing_heard : (h : Heard) → Some h ≡ None → ⊥
  nothing_heard h e = cc

  back_lit : (w : World L) (j : Joint) (y : Fate) (h : Heard) → w.lit ≡ true → Some h ≡ heard_by Pass (joint_back j y) → (replay (mute_air m) w (joint_events j y)).lit ≡ true
  back_lit w Nothing y h l e = l
  back_lit w (Single g) Pass h l e = l
  back_lit w (Single g) Damage h l e = l
  back_lit w (Single g) Lose h l e = l
  back_lit w (Single g) Break h l e = absurd (nothing_heard h e)
  back_lit w (Clashing g) Pass h l e = l
  back_lit w (Clashing g) Damage h l e = l
  back_lit w (Clashing g) Lose h l e = l
  back_lit w (Clashing g) Break h l e = absurd (nothing_heard h e)

  pub heard_lit : (w : World L) (f : Signal) (x y : Fate) (h : Heard) → w.lit ≡ true → Some h ≡ turn_heard (mute_air m) w f x y → (replay (mute_air m) w (turn_events (mute_air m) w f x y)).lit ≡ true
  heard_lit w f Pass y h l e = back_lit (stepped (muted m) w f) ((mute_air m).joint w f) y h l e
  heard_lit w f Damage y h l e = l
  heard_lit w f Lose y h l e = l
  heard_lit w f Break y h l e = absurd (nothing_heard h e)

  turn_lit : (a b : Air L) (f : Signal) (h : Heard) → TurnsTo (mute_air m) (moment a) (moment b) f (Some h) → b.lit ≡ true
  turn_lit a b f h t =
      let M : Moment (World L) → World L = λ x. x.world in
      ap (λ x. (M x).lit) t.moment ∙ heard_lit (moment a).world f (first_fate a.fates) (first_fate (later_fates a.fates)) h t.lit t.heard

  dark_lit : (a : Air L) → a.lit ≡ false → a.lit ≡ true → ⊥
  dark_lit a d l = cc

  pub ask_heard : (is_stuck : Mute → Bool) (old : Air L) (f : Signal) (far : Mute) (h : Heard) (new : Air L) (far' : Mute)
      → Transmits m restarts_mute steps_mute stops_mute is_stuck old f far (Ok h) new far' → AskEnds m old f (Ok h) new
  ask_heard is_stuck old f far h new far' t = let q : TurnsTo (mute_air m) (moment old) (moment new) f (Some h) = turn_muted old f far (Some h) new far' t in (q, turn_lit old new f h q)

  pub ask_lost : (is_stuck : Mute → Bool) (old : Air L) (f : Signal) (far : Mute) (new : Air L) (far' : Mute) → old.lit ≡ true
      → Transmits m restarts_mute steps_mute stops_mute is_stuck old f far (Err FieldLost) new far' → AskEnds m old f (Err faults.FieldLost) new
  ask_lost is_stuck old f far new far' l (inl dark) = absurd (dark_lit old dark.0 l)
  ask_lost is_stuck old f far new far' l (inr t) = turn_muted old f far None new far' t

  pub ask_memory : (is_stuck : Mute → Bool) (old : Air L) (f : Signal) (far : Mute) (new : Air L) (far' : Mute)
      → Transmits m restarts_mute steps_mute stops_mute is_stuck old f far (Err Memory) new far' → AskEnds m old f (Err faults.Memory) new
  ask_memory is_stuck old f far new far' (lit, inl same) = same.0
  ask_memory is_stuck old f far new far' (lit, inr s) =
      absurd (endless_goes_on m restarts_mute steps_mute stops_mute is_stuck (λ a payload b e. e) f old.listeners far s.listeners far' s.some)
