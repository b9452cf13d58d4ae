-- An exchange with listeners and a far end of any kind, turn by turn.
use Rattle.std.proofs.Common.{◌≡◌, ℕ, ◌+◌, ◌≤◌, inl, inr, List, [], ◌∷◌, ◌++◌, length, drop, Bool, false, Option, Some, None, Result, Ok, Err, refl, sym, ◌∙◌, ap, subst, arith, length-append}
use Rattle.std.specs.Global.{Vec}
use Rattle.std.proofs.lemmas.List.{drop_all}
use Rattle.nfc_base.specs.Signal.{Signal}
use Rattle.nfc_base.specs.LinkTurns.{arrived}
use Rattle.nfc_base.specs.declared.event.Event.{Event}
use Rattle.nfc_base.specs.declared.event.Event.TheVariants.{Request}
use Rattle.nfc_base.specs.declared.event.Fate.TheVariants.{Pass}
use Rattle.nfc_base.specs.declared.event.Heard.{Heard}
use Rattle.nfc_base.specs.declared.carrier.EndCause.{EndCause}
use Rattle.nfc_base.specs.declared.carrier.EndCause.TheVariants as cause
use Rattle.nfc_base.specs.declared.carrier.LinkEnd.{LinkEnd}
use Rattle.air_core.specs.World.{Machine}
use Rattle.air_core.specs.Turn.{Air, TurnIs, Stops, Transmits}
use Rattle.air_core.specs.Conversation.{Note, Got, Lost, Asks}
use Rattle.air_core.specs.Speaking.{Speaks}
use Rattle.air_core.specs.declared.fault.AirFault.TheVariants as air
use Rattle.air_core.proofs.Speaking.{SpeaksOn, on_start, on_turn, on_lost}
use Rattle.arrayvec.specs.ArrayVec.{ArrayVec}
use Rattle.dep_link.specs.declared.exchange.Unanswered.{Unanswered}
use Rattle.dep_link.specs.declared.exchange.Unanswered.TheVariants as ends
use Rattle.dep_link.specs.declared.initiator.InitStep.{InitStep}
use Rattle.dep_link.specs.declared.initiator.InitStep.TheVariants as does
use Rattle.dep_link.specs.Frames.{air_frame}
use Rattle.dep_link.specs.Initiator.{InitState, InitTurn, init_table, begun, request}
use Rattle.dep_link.specs.Asking.{Standing, Waits, Rests, Broken, asks, goes_by, noted, stand, due_at, dep_next}
use Rattle.dep_link.specs.Payloads.{brings_payload}
use Rattle.dep_link.specs.Exchange.{frames_of}
use Rattle.dep_link.specs.DepLinks.{DepSeen, told_end}
use Rattle.dep_link.specs.AnyPeer.{TellsPayload, Leaves, IsBegun, CarriesPayload, told_as, Swaps}
use Rattle.dep_link.proofs.Swapping.{stand_on}

module _ {L F : Type 0} (m : Machine L) (restarts : F → List ℕ → F → Type 0) (steps : F → List ℕ → List ℕ → F → Type 0) (stops : F → List ℕ → F → Type 0) (is_stuck : F → Bool)
    (old : Air L) (far : F) (i : InitState) (out : List ℕ) where
  -- the initiator stands so, by all that was heard
  pub record StandsSo (mid : Air L) (half : F) (s : Standing) : Type 0 where
    pub notes : List Note
    pub on : SpeaksOn m restarts steps (dep_next i out) old far mid half notes
    pub stands : stand (asks i out) notes ≡ s

  pub begins_so : (now : InitState) (f : Signal) → IsBegun i out now f → StandsSo old far (Waits now f)
  begins_so now f b =
      record {
        notes = [];
        on = on_start m restarts steps (dep_next i out) old far;
        stands = ap (λ (x : InitState). Waits x (air_frame (request (begun i out).core))) (sym b.now_is) ∙ ap (λ (g : Signal). Waits now g) (sym b.sent_is);
      }

  abbrev Carries : Air L → F → InitState → Result (ArrayVec ℕ) Unanswered → Type 0
  Carries new after j r = CarriesPayload m restarts steps stops is_stuck old far new after i out j r

  -- what an exchange tells where it stands so, behind which nothing more happened
  tells : (new : Air L) (after : F) (j : InitState) (ns : List Note) (s : Standing) (r : Result (ArrayVec ℕ) Unanswered) → Speaks m restarts steps (dep_next i out) old far new after ns
      → stand (asks i out) ns ≡ s → TellsPayload old.lit ns s j r → Leaves m restarts steps stops is_stuck i out ns new after new after r → Carries new after j r
  tells new after j ns s r speaks e a l =
      record { notes = ns; mid = new; half = after; speaks = speaks; tells = subst (λ (x : Standing). TellsPayload old.lit ns x j r) (sym e) a; leaves = l }

  module _ (mid new : Air L) (half after : F) (now : InitState) (f : Signal) (o : StandsSo mid half (Waits now f)) where
    due : dep_next i out o.notes ≡ Asks f
    due = ap due_at o.stands

    -- it goes on by what it heard
    pub goes_on : (h : Heard) → TurnIs m restarts steps mid f half (Some h) new after → (next : InitState) (d : InitStep)
        → (let x : InitTurn = record { state = next; does = d } in x) ≡ init_table now h → StandsSo new after (goes_by next d)
    goes_on h t next d e =
        record {
          notes = o.notes ++ Got h ∷ [];
          on = on_turn m restarts steps (dep_next i out) old far mid new half after o.notes f o.on h due t;
          stands = stand_on (asks i out) o.notes (Got h) ∙ ap (λ (s : Standing). noted s (Got h)) o.stands ∙ ap (λ (x : InitTurn). goes_by x.state x.does) (sym e);
        }

    -- the reply came, or the table told a fault
    pub tells_reply : (h : Heard) → TurnIs m restarts steps mid f half (Some h) new after → (next : InitState) (r : List ℕ)
        → (let x : InitTurn = record { state = next; does = does.Finished (record { items = r }) } in x) ≡ init_table now h → Carries new after next (Ok (record { items = r }))
    tells_reply h t next r e =
        let n = goes_on h t next (does.Finished (record { items = r })) e in
        tells new after next n.notes (Rests next r) (Ok (record { items = r })) n.on.speaks n.stands (refl, refl) (refl, refl)

    pub tells_six : (h : Heard) → TurnIs m restarts steps mid f half (Some h) new after → (next : InitState)
        → (let x : InitTurn = record { state = next; does = does.SixBad } in x) ≡ init_table now h → Carries new after next (Err (ends.Ended cause.SixBad))
    tells_six h t next e =
        let n = goes_on h t next does.SixBad e in
        tells new after next n.notes (Broken cause.SixBad) (Err (ends.Ended cause.SixBad)) n.on.speaks n.stands refl (refl, refl)

    pub tells_never : (h : Heard) → TurnIs m restarts steps mid f half (Some h) new after → (next : InitState)
        → (let x : InitTurn = record { state = next; does = does.Protocol } in x) ≡ init_table now h → Carries new after next (Err (ends.Ended cause.Protocol))
    tells_never h t next e =
        let n = goes_on h t next does.Protocol e in
        tells new after next n.notes (Broken cause.Protocol) (Err (ends.Ended cause.Protocol)) n.on.speaks n.stands refl (refl, refl)

    -- the field was dark, or a transmission lost it
    pub tells_lost : Transmits m restarts steps stops is_stuck mid f half (Err air.FieldLost) new after → Carries new after now (Err (ends.Ended cause.FieldLost))
    tells_lost (inl d) =
        record {
          notes = o.notes;
          mid = mid;
          half = half;
          speaks = o.on.speaks;
          tells = subst (λ (x : Standing). TellsPayload old.lit o.notes x now (Err (ends.Ended cause.FieldLost))) (sym o.stands) (refl, (sym o.on.lit ∙ d.0, o.on.none (sym o.on.lit ∙ d.0)));
          leaves = (d.1, d.2);
        }
    tells_lost (inr t) =
        tells new after now (o.notes ++ Lost ∷ []) (Broken cause.FieldLost) (Err (ends.Ended cause.FieldLost))
        (on_lost m restarts steps (dep_next i out) old far mid new half after o.notes f o.on due t)
        (stand_on (asks i out) o.notes Lost ∙ ap (λ (s : Standing). noted s Lost) o.stands) refl (refl, refl)

    grown_by_one : Stops m restarts steps stops is_stuck mid f half new after → length new.trace ≡ length mid.trace + 1
    grown_by_one s = ap (λ (a : Air L). length a.trace) s.left ∙ length-append mid.trace _

    -- memory was wanting before anything happened
    pub tells_wanting : Transmits m restarts steps stops is_stuck mid f half (Err air.Memory) new after → length new.trace ≡ length mid.trace → Carries new after now (Err (ends.Ended cause.Memory))
    tells_wanting (lit, inl same) e =
        record {
          notes = o.notes;
          mid = mid;
          half = half;
          speaks = o.on.speaks;
          tells = subst (λ (x : Standing). TellsPayload old.lit o.notes x now (Err (ends.Ended cause.Memory))) (sym o.stands) (refl, tt);
          leaves = same;
        }
    tells_wanting (lit, inr s) e = absurd (let a = grown_by_one s in omega (arith, a, e))

    -- the far end stopped
    pub tells_stopped : Transmits m restarts steps stops is_stuck mid f half (Err air.Memory) new after → (length new.trace ≡ length mid.trace → ⊥) → Carries new after now (Err ends.Stopped)
    tells_stopped (lit, inl same) n = absurd (n (ap (λ (a : Air L). length a.trace) same.0))
    tells_stopped (lit, inr s) n =
        record {
          notes = o.notes;
          mid = mid;
          half = half;
          speaks = o.on.speaks;
          tells = subst (λ (x : Standing). TellsPayload old.lit o.notes x now (Err ends.Stopped)) (sym o.stands) (refl, tt);
          leaves = (f, due, s);
        }

-- A trace only grows in an exchange.
pub trace_grows : {L F : Type 0} (m : Machine L) (restarts : F → List ℕ → F → Type 0) (steps : F → List ℕ → List ℕ → F → Type 0) (stops : F → List ℕ → F → Type 0) (is_stuck : F → Bool)
    (old : Air L) (far : F) (new : Air L) (after : F) (i : InitState) (out : List ℕ) (j : InitState) (r : Result (ArrayVec ℕ) Unanswered)
    → CarriesPayload m restarts steps stops is_stuck old far new after i out j r → length old.trace ≤ length new.trace
trace_grows m restarts steps stops is_stuck old far new after i out j r x = by_end r x.leaves
  where
    first : length old.trace ≤ length x.mid.trace
    first = let l = ap length x.speaks.trace in let n = length-append old.trace x.speaks.events in omega (arith, l, n)

    whole : new ≡ x.mid → length old.trace ≤ length new.trace
    whole e = let l = ap (λ (a : Air _). length a.trace) e in let n = first in omega (arith, l, n)

    by_end : (q : Result (ArrayVec ℕ) Unanswered) → Leaves m restarts steps stops is_stuck i out x.notes x.mid x.half new after q → length old.trace ≤ length new.trace
    by_end (Ok reply) l = whole l.0
    by_end (Err (ends.Ended cause)) l = whole l.0
    by_end (Err ends.Stopped) (f, due, s) =
        let l = ap (λ (a : Air _). length a.trace) s.left in let o = length-append x.mid.trace (Request f Pass ∷ []) in let n = first in omega (arith, l, o, n)

module _ {L F : Type 0} (m : Machine L) (restarts : F → List ℕ → F → Type 0) (steps : F → List ℕ → List ℕ → F → Type 0) (stops : F → List ℕ → F → Type 0) (is_stuck : F → Bool)
    (a : DepSeen L) (far : F) (out : List ℕ) where
  -- where the link stands then
  abbrev pub left_at : Air L → InitState → Option EndCause → DepSeen L
  left_at new j over = record { air = new; initiator = j; first = a.first; start = a.start; over = over }

  abbrev pub Payload : Air L → F → InitState → Result (ArrayVec ℕ) Unanswered → Type 0
  Payload new after j r = CarriesPayload m restarts steps stops is_stuck a.air far new after a.initiator out j r

  abbrev pub Told : DepSeen L → F → Result (Vec ℕ) LinkEnd → Type 0
  Told b after r = Swaps m restarts steps stops is_stuck a far b after out r

  -- no room was left for the reply, and nothing was sent
  pub swaps_none : Told (left_at a.air (begun a.initiator out) (Some cause.Memory)) far (Err (record { cause = cause.Memory; answered = false }))
  swaps_none =
      let none : drop (length a.air.trace) a.air.trace ≡ [] = drop_all (length a.air.trace) a.air.trace (omega arith) in
      let P : Bool → Type 0 = λ b. ◌≡◌ {A = Result (List ℕ) LinkEnd} (Err (record { cause = cause.Memory; answered = false })) (Err (record { cause = cause.Memory; answered = b })) in
      record {
        ended = Err (ends.Ended cause.Memory);
        exchange = record {
          notes = [];
          mid = a.air;
          half = far;
          speaks = (on_start m restarts steps (dep_next a.initiator out) a.air far).speaks;
          tells = (refl, tt);
          leaves = (refl, refl);
        };
        told = subst P (sym (ap (λ (es : List Event). brings_payload a.initiator.core.number (frames_of (arrived es))) none)) refl;
        over = refl;
        same = (refl, refl);
      }

  -- the reply came
  pub swaps_reply : (new : Air L) (j : InitState) (after : F) (reply : Vec ℕ) → Payload new after j (Ok (record { items = reply.items })) → Told (left_at new j None) after (Ok reply)
  swaps_reply new j after reply x = record { ended = Ok (record { items = reply.items }); exchange = x; told = refl; over = refl; same = (refl, refl) }

  -- a fault of any kind
  pub swaps_fault : (new : Air L) (j : InitState) (after : F) (why : Unanswered) → Payload new after j (Err why)
      → (came : Bool) → came ≡ brings_payload a.initiator.core.number (frames_of (arrived (drop (length a.air.trace) new.trace)))
      → Told (left_at new j (Some (told_end why came).cause)) after (Err (told_end why came))
  swaps_fault new j after why x came e =
      let same : ◌≡◌ {A = Result (List ℕ) LinkEnd} (Err (told_end why came)) (told_as (Err why) (brings_payload a.initiator.core.number (frames_of (arrived (drop (length a.air.trace) new.trace))))) =
      ap (λ (b : Bool). Err (told_end why b)) e in
      record { ended = Err why; exchange = x; told = same; over = refl; same = (refl, refl) }
