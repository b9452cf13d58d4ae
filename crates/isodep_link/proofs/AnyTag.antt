-- A reader with listeners of any kind: the wait of RATS, and one command, turn by turn.
use Rattle.std.proofs.Common.{◌≡◌, ℕ, inl, inr, List, [], ◌∷◌, ◌++◌, Bool, Some, Result, Ok, Err, refl, sym, ◌∙◌, ap, subst}
use Rattle.nfc_base.specs.Signal.{Signal, whole_a}
use Rattle.nfc_base.specs.declared.event.Heard.{Heard}
use Rattle.nfc_base.specs.declared.tag_link.AskFault.{AskFault}
use Rattle.nfc_base.specs.declared.tag_link.AskFault.TheVariants as ask
use Rattle.air_core.specs.World.{Machine}
use Rattle.air_core.specs.Turn.{Air, TurnIs, Transmits}
use Rattle.air_core.specs.Conversation.{Note, Got, Lost, Next, Asks}
use Rattle.air_core.specs.Waits.{waits_next}
use Rattle.air_core.specs.FirstAnswers.{AsksFirst}
use Rattle.air_core.specs.declared.fault.AirFault.TheVariants as air
use Rattle.air_core.specs.Speaking.{Speaks}
use Rattle.air_core.proofs.FirstAnswers.{told_as, tells_wait}
use Rattle.air_core.proofs.Speaking.{SpeaksOn, on_start, on_turn, on_lost, on_dark, on_resting, rests_off}
use Rattle.isodep_link.specs.declared.reader.ReaderStep.{ReaderStep}
use Rattle.isodep_link.specs.declared.reader.ReaderStep.TheVariants as step
use Rattle.isodep_link.specs.Reader.{ReaderState, ReaderTurn, reader_table}
use Rattle.nfc_base.specs.declared.far.Mute.{Mute}
use Rattle.isodep_link.specs.Muted.{mute_restarts, mute_steps}
use Rattle.isodep_link.specs.Activating.{rats, told_ats, AsksRats}
use Rattle.isodep_link.specs.Asking.{IsoStanding, Waits, Rests, Broken, asks, goes_by, noted, stand, due_at, iso_next, Finishes, AnswersCommand, AsksCommand}
use Rattle.isodep_link.proofs.AskingLaw.{stand_on}

-- a wait of RATS, by what was heard
pub rats_any : {L : Type 0} (m : Machine L) (old : Air L) (far : Mute) (stops : Mute → List ℕ → Mute → Type 0) (is_stuck : Mute → Bool) → ((a b : Mute) (p : List ℕ) → stops a p b → ⊥)
    → (new : Air L) (after : Mute) (r : Result Signal AskFault) → AsksFirst m mute_restarts mute_steps rats old far stops is_stuck new after r
    → AsksRats m old new (told_as told_ats (λ fault. Err fault) r)
rats_any m old far stops is_stuck never new after r a =
    let t = tells_wait m mute_restarts mute_steps rats old far stops is_stuck {R = Result ℕ AskFault} told_ats (λ fault. Err fault) new after r a in
    record {
      notes = t.notes;
      speaks = record {
        far = far;
        after = after;
        speaks = rests_off m mute_restarts mute_steps (waits_next (rats ∷ [])) stops is_stuck never old far t.mid t.half new after t.notes t.speaks t.leaves;
      };
      answers = t.answers;
    }

-- a command is under way: this was sent last
pub record CommandSaid {L : Type 0} (m : Machine L) (old mid : Air L) (i0 : ReaderState) (command : List ℕ) (half : Mute) (i : ReaderState) (f : Signal) : Type 0 where
  pub first : Mute
  pub notes : List Note
  pub on : SpeaksOn m mute_restarts mute_steps (iso_next i0 (command ∷ [])) old first mid half notes
  pub stands : stand (asks i0 (command ∷ [])) notes ≡ Waits i f []

module _ {L : Type 0} (m : Machine L) (old : Air L) (i0 : ReaderState) (command : List ℕ) where
  pub command_said : (far : Mute) (i : ReaderState) (f : Signal) → asks i0 (command ∷ []) ≡ Waits i f [] → CommandSaid m old old i0 command far i f
  command_said far i f e = record { first = far; notes = []; on = on_start m mute_restarts mute_steps (iso_next i0 (command ∷ [])) old far; stands = e }

  command_told : (new : Air L) (ns : List Note) (s : IsoStanding) (i' : ReaderState) (r : Result Signal AskFault) (far after : Mute)
      → Speaks m mute_restarts mute_steps (iso_next i0 (command ∷ [])) old far new after ns
      → stand (asks i0 (command ∷ [])) ns ≡ s → AnswersCommand old.lit i0 command ns s i' r → AsksCommand m old new i0 i' command r
  command_told new ns s i' r far after speaks e a =
      record { notes = ns; speaks = record { far = far; after = after; speaks = speaks }; answers = subst (λ (x : IsoStanding). AnswersCommand old.lit i0 command ns x i' r) (sym e) a }

  module _ (far far' : Mute) (mid new : Air L) (i : ReaderState) (f : Signal) (o : CommandSaid m old mid i0 command far i f) where
    abbrev next : List Note → Next
    next = iso_next i0 (command ∷ [])

    command_due : next o.notes ≡ Asks f
    command_due = ap due_at o.stands

    command_then : (n : Note) → stand (asks i0 (command ∷ [])) (o.notes ++ n ∷ []) ≡ noted (Waits i f []) n
    command_then n = stand_on (asks i0 (command ∷ [])) o.notes n ∙ ap (λ (s : IsoStanding). noted s n) o.stands

    command_on : (h : Heard) → TurnIs m mute_restarts mute_steps mid f far (Some h) new far' → SpeaksOn m mute_restarts mute_steps next old o.first new far' (o.notes ++ Got h ∷ [])
    command_on h t = on_turn m mute_restarts mute_steps next old o.first mid new far far' o.notes f o.on h command_due t

    goes : (h : Heard) (i' : ReaderState) (d : ReaderStep) → (let x : ReaderTurn = record { state = i'; does = d } in x) ≡ reader_table i h
        → stand (asks i0 (command ∷ [])) (o.notes ++ Got h ∷ []) ≡ goes_by i' d []
    goes h i' d e = command_then (Got h) ∙ ap (λ (x : ReaderTurn). goes_by x.state x.does []) (sym e)

    -- the table sends on
    pub command_sends : (h : Heard) → TurnIs m mute_restarts mute_steps mid f far (Some h) new far' → (i' : ReaderState) (g : Signal)
        → (let x : ReaderTurn = record { state = i'; does = step.Send g } in x) ≡ reader_table i h → CommandSaid m old new i0 command far' i' g
    command_sends h t i' g e = record { first = o.first; notes = o.notes ++ Got h ∷ []; on = command_on h t; stands = goes h i' (step.Send g) e }

    -- it has the answer
    pub command_answered : (h : Heard) → TurnIs m mute_restarts mute_steps mid f far (Some h) new far' → (i' : ReaderState) (r : List ℕ)
        → (let x : ReaderTurn = record { state = i'; does = step.Finished (record { items = r }) } in x) ≡ reader_table i h → (answer : Signal) → answer ≡ whole_a r
        → AsksCommand m old new i0 i' command (Ok answer)
    command_answered h t i' r e answer w =
        let finishes : Finishes i0 command (o.notes ++ Got h ∷ []) i' (Ok answer) =
        record { before = o.notes; last = h; noted = refl; reader = i; sent = f; stands = o.stands; answer = r; table = sym e; told = ap (λ (x : Signal). Ok x) w } in
        command_told new (o.notes ++ Got h ∷ []) (Rests i') i' (Ok answer) o.first far' (command_on h t).speaks (goes h i' (step.Finished (record { items = r })) e) (refl, finishes)

    -- it gives up, or refuses what it heard
    pub command_six : (h : Heard) → TurnIs m mute_restarts mute_steps mid f far (Some h) new far' → (i' : ReaderState)
        → (let x : ReaderTurn = record { state = i'; does = step.SixBad } in x) ≡ reader_table i h → AsksCommand m old new i0 i' command (Err ask.SixBad)
    command_six h t i' e = command_told new (o.notes ++ Got h ∷ []) (Broken ask.SixBad) i' (Err ask.SixBad) o.first far' (command_on h t).speaks (goes h i' step.SixBad e) refl

    pub command_refused : (h : Heard) → TurnIs m mute_restarts mute_steps mid f far (Some h) new far' → (i' : ReaderState)
        → (let x : ReaderTurn = record { state = i'; does = step.Protocol } in x) ≡ reader_table i h → AsksCommand m old new i0 i' command (Err ask.Protocol)
    command_refused h t i' e = command_told new (o.notes ++ Got h ∷ []) (Broken ask.Protocol) i' (Err ask.Protocol) o.first far' (command_on h t).speaks (goes h i' step.Protocol e) refl

    module _ (stops : Mute → List ℕ → Mute → Type 0) (is_stuck : Mute → Bool) where
      pub command_lost : Transmits m mute_restarts mute_steps stops is_stuck mid f far (Err air.FieldLost) new far' → AsksCommand m old new i0 i command (Err ask.FieldLost)
      command_lost (inl d) =
          let s = on_dark m mute_restarts mute_steps next old o.first mid new far far' o.notes f o.on {R = Result Signal AskFault} (Err ask.FieldLost) (Err ask.Memory) d.0 d.1 d.2 in
          command_told new o.notes (Waits i f []) i (Err ask.FieldLost) o.first far' s.0 o.stands (refl, s.1)
      command_lost (inr t) =
          command_told new (o.notes ++ Lost ∷ []) (Broken ask.FieldLost) i (Err ask.FieldLost) o.first far'
          (on_lost m mute_restarts mute_steps next old o.first mid new far far' o.notes f o.on command_due t) (command_then Lost) refl

      pub command_stopped : ((a b : Mute) (p : List ℕ) → stops a p b → ⊥) → Transmits m mute_restarts mute_steps stops is_stuck mid f far (Err air.Memory) new far'
          → AsksCommand m old new i0 i command (Err ask.Memory)
      command_stopped never t =
          let s = on_resting m mute_restarts mute_steps next old o.first mid new far far' o.notes f o.on {R = Result Signal AskFault} (Err ask.FieldLost) (Err ask.Memory) stops is_stuck never t in
          command_told new o.notes (Waits i f []) i (Err ask.Memory) o.first far' s.0 o.stands (refl, s.1)
