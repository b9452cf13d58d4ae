-- While frames of a script's own are sent, what is due is first what opening a link asks of a peer, and once ATR_REQ is answered, or a tag is
-- selected, each frame.
use Rattle.std.proofs.Common.{◌≡◌, ℕ, suc, List, [], ◌∷◌, ◌++◌, Bool, true, false, if◌then◌else◌, Some, Ok, Err, refl, ◌∙◌, ap}
use Rattle.std.specs.Prelude.{nat_lt}
use Rattle.nfc_base.specs.Signal.{Signal}
use Rattle.nfc_base.specs.declared.carrier.EndCause.TheVariants as cause
use Rattle.nfc_base.specs.declared.event.Heard.TheVariants.{Whole, Collided, Damaged, Silent}
use Rattle.nfc_base.specs.declared.tag_link.AskFault.TheVariants as faults
use Rattle.air_core.specs.Conversation.{Note, Lit, Got, Lost, Asks}
use Rattle.air_core.specs.Waits.{Asking, Broken, due_at, stand}
use Rattle.air_core.proofs.Following.{over_is_no_request}
use Rattle.arrayvec.specs.ArrayVec.{ArrayVec}
use Rattle.dep_link.specs.Activating.{told_atr}
use Rattle.dep_link.specs.Frames.{spelled}
use Rattle.bench_script.specs.declared.command.DeviceId.{DeviceId}
use Rattle.bench_devices.specs.declared.polling.SeenKind.{SeenKind}
use Rattle.bench_devices.specs.declared.polling.SeenKind.TheVariants as seen
use Rattle.bench_devices.specs.Opening.{linking, then_opens}
use Rattle.bench_devices.specs.Polling as polls
use Rattle.bench_devices.specs.Polling.{Followed, Told, selecting}
use Rattle.bench_world.specs.Forging.{forged_general}
use Rattle.bench_world.specs.Rawing.{Rawing, Activates, Sends, Unlinked, raw_due, raw_linked_by, raw_noted, raw_stand, rawing, then_raws}
use Rattle.bench_world.proofs.forged.ForgeNotes.{atr}
use Rattle.bench_world.proofs.forged.ForgingDue.{none_left}

module _ (frames : List Signal) where
  -- as long as ATR_REQ is due there, it is here
  again_due : (ns : List Note) (bad : ℕ) (f : Signal) (v : Bool) → (due_at (stand (suc bad) (atr ∷ []) ns) ≡ Asks f → raw_due (raw_stand frames (Activates (suc bad)) ns) ≡ Asks f)
      → due_at (if v then stand (suc bad) (atr ∷ []) ns else Broken faults.SixBad (atr ∷ [])) ≡ Asks f
      → raw_due (raw_stand frames (if v then Activates (suc bad) else Unlinked cause.SixBad) ns) ≡ Asks f
  again_due ns bad f true rest e = rest e
  again_due ns bad f false rest e = absurd (over_is_no_request f e)

  atr_due : (ns : List Note) (bad : ℕ) (f : Signal) → due_at (stand bad (atr ∷ []) ns) ≡ Asks f → raw_due (raw_stand frames (Activates bad) ns) ≡ Asks f
  atr_due [] bad f e = e
  atr_due (Lit ∷ ns) bad f e = absurd (over_is_no_request f e)
  atr_due (Lost ∷ ns) bad f e = absurd (over_is_no_request f e)
  atr_due (Got (Whole g) ∷ ns) bad f e = absurd (none_left ns f e)
  atr_due (Got (Collided g) ∷ ns) bad f e = again_due ns bad f (nat_lt bad 5) (atr_due ns (suc bad) f) e
  atr_due (Got Damaged ∷ ns) bad f e = again_due ns bad f (nat_lt bad 5) (atr_due ns (suc bad) f) e
  atr_due (Got Silent ∷ ns) bad f e = again_due ns bad f (nat_lt bad 5) (atr_due ns (suc bad) f) e

  -- so what opening a link asks is due
  opening_then : (p : Followed SeenKind) (f : Signal) → then_opens forged_general p ≡ Asks f → then_raws frames p ≡ Asks f
  opening_then (polls.Asks n) f e = e
  opening_then (Told (Ok seen.T2) ns) f e = absurd (over_is_no_request f e)
  opening_then (Told (Ok seen.T4) ns) f e = absurd (over_is_no_request f e)
  opening_then (Told (Ok seen.T5) ns) f e = absurd (over_is_no_request f e)
  opening_then (Told (Ok seen.Peer) ns) f e = atr_due ns 0 f e
  opening_then (Told (Err x) ns) f e = absurd (over_is_no_request f e)

  pub opening_due : (id : DeviceId) (ns : List Note) (f : Signal) → linking id forged_general ns ≡ Asks f → rawing id frames ns ≡ Asks f
  opening_due id ns f e = opening_then (selecting id ns) f e

  -- an answer that is ATR_RES opens the link
  abbrev opened : ℕ × ArrayVec ℕ → Rawing
  opened p = Sends [] frames

  again_opened : (ns : List Note) (bad b : ℕ) (p : ℕ × ArrayVec ℕ) (v : Bool) → (stand (suc bad) (atr ∷ []) ns ≡ Asking b [] → raw_stand frames (Activates (suc bad)) ns ≡ opened p)
      → (if v then stand (suc bad) (atr ∷ []) ns else Broken faults.SixBad (atr ∷ [])) ≡ Asking b [] → raw_stand frames (if v then Activates (suc bad) else Unlinked cause.SixBad) ns ≡ opened p
  again_opened ns bad b p true rest e = rest e
  again_opened ns bad b p false rest e = absurd cc

  atr_opened : (ns before : List Note) (bad b : ℕ) (f : Signal) (p : ℕ × ArrayVec ℕ) → stand bad (atr ∷ []) ns ≡ Asking b [] → ns ≡ before ++ Got (Whole f) ∷ [] → told_atr (spelled f) ≡ Some p
      → raw_stand frames (Activates bad) ns ≡ opened p
  atr_opened [] before bad b f p e is told = absurd cc
  atr_opened (Lit ∷ ns) before bad b f p e is told = absurd cc
  atr_opened (Lost ∷ ns) before bad b f p e is told = absurd cc
  atr_opened (Got (Whole g) ∷ []) [] bad b f p e is told =
      let same : g ≡ f = cc in
      ap (raw_linked_by frames) (ap (λ h. told_atr (spelled h)) same ∙ told)
  atr_opened (Got (Whole g) ∷ []) (k ∷ []) bad b f p e is told = absurd cc
  atr_opened (Got (Whole g) ∷ []) (k ∷ l ∷ before) bad b f p e is told = absurd cc
  atr_opened (Got (Whole g) ∷ k ∷ ns) before bad b f p e is told = absurd cc
  atr_opened (Got (Collided g) ∷ ns) [] bad b f p e is told = absurd cc
  atr_opened (Got (Collided g) ∷ ns) (k ∷ before) bad b f p e is told =
      let rest : ns ≡ before ++ Got (Whole f) ∷ [] = cc in
      again_opened ns bad b p (nat_lt bad 5) (λ q. atr_opened ns before (suc bad) b f p q rest told) e
  atr_opened (Got Damaged ∷ ns) [] bad b f p e is told = absurd cc
  atr_opened (Got Damaged ∷ ns) (k ∷ before) bad b f p e is told =
      let rest : ns ≡ before ++ Got (Whole f) ∷ [] = cc in
      again_opened ns bad b p (nat_lt bad 5) (λ q. atr_opened ns before (suc bad) b f p q rest told) e
  atr_opened (Got Silent ∷ ns) [] bad b f p e is told = absurd cc
  atr_opened (Got Silent ∷ ns) (k ∷ before) bad b f p e is told =
      let rest : ns ≡ before ++ Got (Whole f) ∷ [] = cc in
      again_opened ns bad b p (nat_lt bad 5) (λ q. atr_opened ns before (suc bad) b f p q rest told) e

  pub link_opened : (ns before : List Note) (b : ℕ) (f : Signal) (p : ℕ × ArrayVec ℕ) → stand 0 (atr ∷ []) ns ≡ Asking b [] → ns ≡ before ++ Got (Whole f) ∷ [] → told_atr (spelled f) ≡ Some p
      → raw_stand frames (Activates 0) ns ≡ opened p
  link_opened ns before b f p e is told = atr_opened ns before 0 b f p e is told

  -- behind it the frames are sent
  pub stands_on : (ns ms : List Note) (s : Rawing) → raw_stand frames s (ns ++ ms) ≡ raw_stand frames (raw_stand frames s ns) ms
  stands_on [] ms s = refl
  stands_on (n ∷ ns) ms s = stands_on ns ms (raw_noted frames s n)
