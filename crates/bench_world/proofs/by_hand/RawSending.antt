-- Frames of a script's own are sent one after the other, over whatever far end.
use Rattle.std.proofs.Common.{◌≡◌, inl, inr, ℕ, List, [], ◌∷◌, ◌++◌, true, false, Bool, Some, Ok, Err, refl, sym, ◌∙◌, ap}
use Rattle.nfc_base.specs.Signal.{Signal}
use Rattle.nfc_base.specs.declared.carrier.EndCause.TheVariants as causes
use Rattle.nfc_base.specs.declared.event.Heard.{Heard}
use Rattle.air_core.specs.Conversation.{Note, Got, Lost, Asks}
use Rattle.air_core.specs.Turn.{Air, Transmits, TurnIs}
use Rattle.air_core.specs.declared.fault.AirFault.TheVariants as air
use Rattle.air_core.proofs.Speaking.{SpeaksOn, on_lost, on_start, on_turn}
use Rattle.bench_devices.specs.declared.device.Device.{Device}
use Rattle.bench_devices.specs.Device.{devices}
use Rattle.bench_world.specs.declared.entry.RawHeard.{RawHeard}
use Rattle.bench_world.specs.private.RawAt.{SendsEach, frames_due}
use Rattle.bench_world.specs.Rawing.{Rawing, Sends, are_sent, raw_due, raw_heard, raw_noted, raw_stand}

stand_more : (frames : List Signal) (s : Rawing) (ns : List Note) (n : Note) → raw_stand frames s (ns ++ n ∷ []) ≡ raw_noted frames (raw_stand frames s ns) n
stand_more frames s [] n = refl
stand_more frames s (k ∷ ns) n = stand_more frames (raw_noted frames s k) ns n

-- Some of them were sent, of which this was heard, and these are left.
pub record Sending {A : Type 0} (restarts : A → List ℕ → A → Type 0) (steps : A → List ℕ → List ℕ → A → Type 0) (old : Air Device) (far : A) (frames left : List Signal) (now : Air Device) (half : A)
    (heard : List RawHeard) : Type 0 where
  pub notes : List Note
  pub on : SpeaksOn devices restarts steps (frames_due frames) old far now half notes
  pub stands : raw_stand frames (Sends [] frames) notes ≡ Sends heard left

module _ {A : Type 0} (restarts : A → List ℕ → A → Type 0) (steps : A → List ℕ → List ℕ → A → Type 0) (stops : A → List ℕ → A → Type 0) (is_stuck : A → Bool) (old : Air Device) (far : A)
    (frames : List Signal) (lit : old.lit ≡ true) where
  abbrev On : List Signal → Air Device → A → List RawHeard → Type 0
  On left now half heard = Sending restarts steps old far frames left now half heard

  pub sending_begins : On frames old far []
  sending_begins = record { notes = []; on = on_start devices restarts steps (frames_due frames) old far; stands = refl }

  -- all were sent
  pub sending_over : (now : Air Device) (half : A) (heard : List RawHeard) → On [] now half heard → SendsEach restarts steps stops is_stuck old far frames now half (Ok heard)
  sending_over now half heard s = record { notes = s.notes; mid = now; half = half; speaks = s.on.speaks; ends = (refl, refl, s.stands) }

  -- room was wanting
  pub sending_rests : (left : List Signal) (now : Air Device) (half : A) (heard : List RawHeard) → On left now half heard
      → SendsEach restarts steps stops is_stuck old far frames now half (Err causes.Memory)
  sending_rests left now half heard s = record { notes = s.notes; mid = now; half = half; speaks = s.on.speaks; ends = (ap are_sent s.stands, inl (refl, refl)) }

  -- one more is sent
  module _ (f : Signal) (left : List Signal) (now new : Air Device) (half after : A) (heard : List RawHeard) (s : On (f ∷ left) now half heard) where
    due : frames_due frames s.notes ≡ Asks f
    due = ap raw_due s.stands

    noted : (n : Note) → raw_stand frames (Sends [] frames) (s.notes ++ n ∷ []) ≡ raw_noted frames (Sends heard (f ∷ left)) n
    noted n = stand_more frames (Sends [] frames) s.notes n ∙ ap (λ x. raw_noted frames x n) s.stands

    pub sending_then : (h : Heard) → TurnIs devices restarts steps now f half (Some h) new after → On left new after (heard ++ raw_heard h ∷ [])
    sending_then h t = record {
      notes = s.notes ++ Got h ∷ [];
      on = on_turn devices restarts steps (frames_due frames) old far now new half after s.notes f s.on h due t;
      stands = noted (Got h);
    }

    pub sending_lost : Transmits devices restarts steps stops is_stuck now f half (Err air.FieldLost) new after
        → SendsEach restarts steps stops is_stuck old far frames new after (Err causes.FieldLost)
    sending_lost (inl dark) = absurd (let clash : true ≡ false = sym lit ∙ sym s.on.lit ∙ dark.0 in cc)
    sending_lost (inr t) = record {
      notes = s.notes ++ Lost ∷ [];
      mid = new;
      half = after;
      speaks = on_lost devices restarts steps (frames_due frames) old far now new half after s.notes f s.on due t;
      ends = (refl, refl, noted Lost);
    }

    pub sending_wanting : Transmits devices restarts steps stops is_stuck now f half (Err air.Memory) new after → SendsEach restarts steps stops is_stuck old far frames new after (Err causes.Memory)
    sending_wanting (bright, inl same) = record { notes = s.notes; mid = now; half = half; speaks = s.on.speaks; ends = (ap are_sent s.stands, inl same) }
    sending_wanting (bright, inr h) = record { notes = s.notes; mid = now; half = half; speaks = s.on.speaks; ends = (ap are_sent s.stands, inr (f, due, h)) }
