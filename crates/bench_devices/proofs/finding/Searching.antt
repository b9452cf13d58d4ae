-- A search by rounds over the bench's devices: what it asks are calls, it is over for good, and it leaves the field lit where it
-- ends well.
use Rattle.std.proofs.Common.{◌≡◌, ℕ, ◌+◌, ◌<◌, ◌≤◌, ◌==◌, ◌&&◌, nat_lt, nat_le, List, [], ◌∷◌, ◌++◌, length, slice_index, Bool, true, false, if◌then◌else◌, Option, Some, None, Result, Ok, Err, refl}
use Rattle.std.proofs.Common.{sym, ◌∙◌, ap, subst, arith}
use Rattle.std.proofs.lemmas.List.{length-append}
use Rattle.nfc_base.specs.declared.event.Heard.{Heard}
use Rattle.nfc_base.specs.declared.event.Heard.TheVariants.{Whole, Collided, Damaged, Silent}
use Rattle.nfc_base.specs.declared.frame.Tech.TheVariants.{A as NfcA}
use Rattle.nfc_base.specs.Signal.{Signal}
use Rattle.nfc_base.specs.Bits.{low_bits, bits, bits_of, number_of, packed}
use Rattle.nfc_base.proofs.Packing.{number_of_low_bits}
use Rattle.air_core.specs.Conversation.{Note, Lit, Got, Lost, Over, Asks}
use Rattle.nfca_poll.specs.declared.fault.PollFault.{PollFault}
use Rattle.nfca_poll.specs.declared.fault.PollFault.TheVariants as faults
use Rattle.nfca_poll.specs.declared.fault.Picked.{Picked}
use Rattle.nfca_poll.specs.Levels.{bcc, cascades, identifier}
use Rattle.nfca_poll.specs.Calls.{Call, Sens, Slp, Sdd, Sel, call_frame, sel_cmd, sel_par}
use Rattle.nfca_poll.specs.Poll.{Seek, Calling, Asking, Selecting, Ended, Nobody, Disturbed, BadAnswer, Found, seek_step, seek_next, goes_on, level_bits, collision_bits, has_bit, kind_of, is_one_byte}
use Rattle.nfca_poll.specs.Enquiry.{Progress, Reaches, Loses, progress, due_of, enquiring, answer_of}
use Rattle.nfca_poll.specs.Rounds.{Search, Begins, Seeks, Sends, Told, Aim, most_rounds, most_found, next_round, has_found, met_or_taken, sought, search_next, search_lit, search_step, search_ended}
use Rattle.nfca_poll.specs.Rounds.{searching}
use Rattle.bench_devices.proofs.finding.Following.{HasEnded, Closes}
use Rattle.air_core.proofs.Following.{same_asked, light_is_no_request, over_is_no_request}
use Rattle.bench_devices.proofs.finding.SelectingAir.{stays_lit}
use Rattle.air_core.proofs.LostField.{lit_by}
use Rattle.nfca_poll.specs.laws.OwnFrames.{BeginsAsCalls}
use Rattle.nfca_poll.proofs.identifiers.CallsRead.{sdd_read, sel_read}
use Rattle.nfca_poll.proofs.enquiries.SeekSteps.{packed_forty}
use Rattle.bench_devices.specs.Noise.{is_call, is_polling}
use Rattle.bench_devices.proofs.finding.SelectingKept.{IsHarmless, harmless_call}

-- a request of polling: a frame of NFC-A that is read as a call, and begins as calls do
pub record IsCall (f : Signal) : Type 0 where
  pub of_a : f.tech ≡ NfcA
  pub begins : BeginsAsCalls f
  pub called : is_call f ≡ true

pub call_harmless : (f : Signal) → IsCall f → IsHarmless f
call_harmless f is = harmless_call f is.of_a is.begins

sdd_bytes : (a p : ℕ) (known : List Bool) → packed (bits_of (a ∷ p ∷ []) ++ known) ≡ number_of (low_bits 8 a) ∷ number_of (low_bits 8 p) ∷ packed known
unfolding packed bits_of
sdd_bytes a p known = refl

-- the codes of the three levels
in_range : (k n : ℕ) → n ≡ sel_cmd k → k ≤ 3 → (0x50 ≤ n) × (n ≤ 0x97)
in_range k n e h = (omega (arith, e), omega (arith, e, h))

small_code : (k : ℕ) → k ≤ 3 → sel_cmd k < 256
small_code k h = omega (arith, h)

sdd_call : (k : ℕ) (known : List Bool) → 1 ≤ k → k ≤ 3 → length known ≤ 39 → IsCall (call_frame (Sdd k known))
sdd_call k known l h few =
    let first : slice_index (call_frame (Sdd k known)).bytes 0 ≡ sel_cmd k =
    ap (λ bytes. slice_index bytes 0) (sdd_bytes (sel_cmd k) (sel_par (length known)) known) ∙ number_of_low_bits 8 (sel_cmd k) (small_code k h) in
    record { of_a = refl; begins = λ t. in_range k (slice_index (call_frame (Sdd k known)).bytes 0) first h; called = ap is_polling (sdd_read k known l h few) }

sel_call : (k : ℕ) (l : List ℕ) → 1 ≤ k → k ≤ 3 → length l ≡ 5 → IsCall (call_frame (Sel k l))
sel_call k l one h five = record { of_a = refl; begins = λ t. in_range k (sel_cmd k) refl h; called = ap is_polling (sel_read k l one h five) }

sens_call : IsCall (call_frame Sens)
sens_call = record { of_a = refl; begins = λ t. absurd cc; called = refl }

slp_call : IsCall (call_frame Slp)
slp_call = record { of_a = refl; begins = λ t. (omega arith, omega arith); called = refl }

call_asked : (c : Call) (f : Signal) → IsCall (call_frame c) → Asks (call_frame c) ≡ Asks f → IsCall f
call_asked c f is e = subst IsCall (same_asked (call_frame c) f e) is

-- A resolution knows two levels at most before the one that it asks, and not all of this one.
abbrev IsFew : Seek → Type 0
IsFew (Calling n) = Unit {0}
IsFew (Asking done known) = (length done ≤ 2) × (length known ≤ 39)
IsFew (Selecting done l) = (length done ≤ 2) × (length l ≡ 5)
IsFew (Ended o) = Unit {0}

few_either : (v : Bool) (s t : Seek) → IsFew s → IsFew t → IsFew (if v then s else t)
few_either true s t h k = h
few_either false s t h k = k

few_if : (v : Bool) (s t : Seek) → (v ≡ true → IsFew s) → (v ≡ false → IsFew t) → IsFew (if v then s else t)
few_if true s t h k = h refl
few_if false s t h k = k refl

-- a level that is known whole has five bytes
whole_level : (n : ℕ) (v : Bool) → ((n == level_bits) && v) ≡ true → n ≡ 40
whole_level n v h = grind arith

few_known : (n m : ℕ) → nat_le collision_bits n ≡ false → m ≡ n + 1 → m ≤ 39
few_known n m h e = grind arith

few_more : (done : List (List ℕ)) (l : List ℕ) (v : Bool) → goes_on done l ≡ v → IsFew (if v then Asking (done ++ l ∷ []) [] else Ended BadAnswer)
few_more done l true e = (one_more (length done) (length (done ++ l ∷ [])) (cascades l) e (length-append done (l ∷ [])), omega arith)
  where
    one_more : (n m : ℕ) (w : Bool) → (nat_lt n 2 && w) ≡ true → m ≡ n + 1 → m ≤ 2
    one_more n m w h k = grind arith
few_more done l false e = tt

few_step : (s : Seek) (h : Heard) → IsFew s → IsFew (seek_step s h)
few_step (Calling n) (Whole g) k = (omega arith, omega arith)
few_step (Calling n) (Collided g) k = (omega arith, omega arith)
few_step (Calling n) Damaged k = (omega arith, omega arith)
few_step (Calling n) Silent k = few_either (nat_lt n 3) (Calling (n + 1)) (Ended Nobody) tt tt
few_step (Asking done known) (Whole g) k =
    let heard : List Bool = known ++ bits g in
    few_if ((length heard == level_bits) && (slice_index (packed heard) 4 == bcc (packed heard))) (Selecting done (packed heard)) (Ended BadAnswer)
    (λ whole. (k.0, packed_forty heard (whole_level (length heard) (slice_index (packed heard) 4 == bcc (packed heard)) whole))) (λ other. tt)
few_step (Asking done known) (Collided g) k =
    let heard : List Bool = known ++ bits g in
    few_if (nat_le collision_bits (length heard)) (Ended BadAnswer) (Asking done (heard ++ true ∷ [])) (λ many. tt)
    (λ few. (k.0, few_known (length heard) (length (heard ++ true ∷ [])) few (length-append heard (true ∷ []))))
few_step (Asking done known) Damaged k = tt
few_step (Asking done known) Silent k = tt
few_step (Selecting done l) (Whole g) k =
    let res : ℕ = slice_index g.bytes 0 in
    let more : Seek = if goes_on done l then Asking (done ++ l ∷ []) [] else Ended BadAnswer in
    let last : Seek = if goes_on done l then Ended BadAnswer else Ended (Found (done ++ l ∷ []) (kind_of res)) in
    let none : IsFew last = few_either (goes_on done l) (Ended BadAnswer) (Ended (Found (done ++ l ∷ []) (kind_of res))) tt tt in
    few_either (is_one_byte g) (if has_bit res 0x04 then more else last) (Ended BadAnswer) (few_either (has_bit res 0x04) more last (few_more done l (goes_on done l) refl) none) tt
few_step (Selecting done l) (Collided g) k = tt
few_step (Selecting done l) Damaged k = tt
few_step (Selecting done l) Silent k = tt
few_step (Ended o) h k = tt

third : (n : ℕ) → n ≤ 2 → n + 1 ≤ 3
third n h = omega (arith, h)

from_one : (n : ℕ) → 1 ≤ n + 1
from_one n = omega arith

seek_asked : (s : Seek) (f : Signal) → IsFew s → seek_next s ≡ Asks f → IsCall f
seek_asked (Calling n) f k e = call_asked Sens f sens_call e
seek_asked (Asking done known) f k e = call_asked (Sdd (length done + 1) known) f (sdd_call (length done + 1) known (from_one (length done)) (third (length done) k.0) k.1) e
seek_asked (Selecting done l) f k e = call_asked (Sel (length done + 1) l) f (sel_call (length done + 1) l (from_one (length done)) (third (length done) k.0) k.1) e
seek_asked (Ended o) f k e = absurd (over_is_no_request f e)

-- What is asked in a search by rounds are calls, and once it is over nothing is.
module _ {X : Type 0} (aim : Aim X) where
  abbrev KnowsFew : Search X → Type 0
  KnowsFew (Begins round) = Unit {0}
  KnowsFew (Seeks round found s) = IsFew s
  KnowsFew (Sends round found) = Unit {0}
  KnowsFew (Told r) = Unit {0}

  few_of : (v : Bool) (s t : Search X) → KnowsFew s → KnowsFew t → KnowsFew (if v then s else t)
  few_of true s t h k = h
  few_of false s t h k = k

  few_next : (round : ℕ) → KnowsFew (next_round round)
  few_next round = few_of (nat_lt round most_rounds) (Begins (round + 1)) (Told (Err faults.Disturbed)) tt tt

  few_met : (round : ℕ) (found : List Picked) (p : Picked) (o : Option X) → KnowsFew (met_or_taken aim next_round round found p o)
  few_met round found p (Some x) = tt
  few_met round found p None =
      let sleeps : Search X = if nat_lt (length found) most_found then Sends round (found ++ p ∷ []) else Told (Err faults.BadAnswer) in
      few_of (has_found found p.id) (next_round round) sleeps (few_next round) (few_of (nat_lt (length found) most_found) (Sends round (found ++ p ∷ [])) (Told (Err faults.BadAnswer)) tt tt)

  few_sought : (round : ℕ) (found : List Picked) (s : Seek) → IsFew s → KnowsFew (sought aim next_round round found s)
  few_sought round found (Calling n) k = tt
  few_sought round found (Asking done known) k = k
  few_sought round found (Selecting done l) k = k
  few_sought round found (Ended Nobody) k = tt
  few_sought round found (Ended Disturbed) k = few_next round
  few_sought round found (Ended BadAnswer) k = tt
  few_sought round found (Ended (Found ls kind)) k =
      let p : Picked = record { id = identifier ls; kind = kind } in
      few_met round found p (aim.takes p)

  few_heard : (s : Search X) (h : Heard) → KnowsFew s → KnowsFew (search_step aim next_round s h)
  few_heard (Begins round) h k = tt
  few_heard (Seeks round found s) h k = few_sought round found (seek_step s h) (few_step s h k)
  few_heard (Sends round found) h k = tt
  few_heard (Told r) h k = tt

  few_lit : (s : Search X) → KnowsFew s → KnowsFew (search_lit aim s)
  few_lit (Begins round) k = tt
  few_lit (Seeks round found s) k = k
  few_lit (Sends round found) k = tt
  few_lit (Told r) k = tt

  search_asked : (s : Search X) (f : Signal) → KnowsFew s → search_next aim s ≡ Asks f → IsCall f
  search_asked (Begins round) f k e = absurd (light_is_no_request f e)
  search_asked (Seeks round found s) f k e = seek_asked s f k e
  search_asked (Sends round found) f k e = call_asked Slp f slp_call e
  search_asked (Told r) f k e = absurd (over_is_no_request f e)

  calls_from : (s : Search X) (ns : List Note) (f : Signal) → KnowsFew s → due_of (searching aim) (progress (searching aim) s ns) ≡ Asks f → IsCall f
  calls_from s [] f k e = search_asked s f k e
  calls_from s (Lit ∷ ns) f k e = calls_from (search_lit aim s) ns f (few_lit s k) e
  calls_from s (Got h ∷ ns) f k e = calls_from (search_step aim next_round s h) ns f (few_heard s h k) e
  calls_from s (Lost ∷ ns) f k e = absurd (over_is_no_request f e)

  pub asks_calls : (ns : List Note) (f : Signal) → enquiring (searching aim) ns ≡ Asks f → IsCall f
  asks_calls ns f e = calls_from (Begins 1) ns f tt e

  pub asks_harmless : (ns : List Note) (f : Signal) → enquiring (searching aim) ns ≡ Asks f → IsHarmless f
  asks_harmless ns f e = call_harmless f (asks_calls ns f e)

  silent : (s : Search X) → HasEnded (search_ended aim s) → search_next aim s ≡ Over
  silent (Begins round) h = absurd h
  silent (Seeks round found s) h = absurd h
  silent (Sends round found) h = absurd h
  silent (Told r) h = refl

  stays_lit_over : (s : Search X) → HasEnded (search_ended aim s) → HasEnded (search_ended aim (search_lit aim s))
  stays_lit_over (Begins round) h = absurd h
  stays_lit_over (Seeks round found s) h = absurd h
  stays_lit_over (Sends round found) h = absurd h
  stays_lit_over (Told r) h = tt

  stays_over : (s : Search X) (g : Heard) → HasEnded (search_ended aim s) → HasEnded (search_ended aim (search_step aim next_round s g))
  stays_over (Begins round) g h = absurd h
  stays_over (Seeks round found s) g h = absurd h
  stays_over (Sends round found) g h = absurd h
  stays_over (Told r) g h = tt

  pub search_closes : Closes (searching aim)
  search_closes = record { silent = silent; lit = stays_lit_over; heard = stays_over }

  not_yet : (x : X) → Ok x ≡ Err faults.Memory → ⊥
  not_yet x e = cc

  not_lost : (x : X) → Ok x ≡ Err faults.FieldLost → ⊥
  not_lost x e = cc

  -- a search that is over well
  told_well : (x : X) (p : Progress (Search X)) → Ok x ≡ answer_of (searching aim) p → p ≡ Reaches (Told (Ok x))
  told_well x (Reaches (Begins round)) e = absurd (not_yet x e)
  told_well x (Reaches (Seeks round found s)) e = absurd (not_yet x e)
  told_well x (Reaches (Sends round found)) e = absurd (not_yet x e)
  told_well x (Reaches (Told r)) e = ap (λ q. Reaches (Told q)) (sym e)
  told_well x Loses e = absurd (not_lost x e)

  no_start : (n : ℕ) (r : Result X PollFault) → ◌≡◌ {A = Progress (Search X)} (Reaches (Begins n)) (Reaches (Told r)) → ⊥
  no_start n r e = cc

  no_loss : (r : Result X PollFault) → ◌≡◌ {A = Progress (Search X)} Loses (Reaches (Told r)) → ⊥
  no_loss r e = cc

  -- it begins with a reset, so the field is lit at its end
  lit_at_end : (v : Bool) (n : ℕ) (r : Result X PollFault) (ns : List Note) → progress (searching aim) (Begins n) ns ≡ Reaches (Told r) → lit_by v ns ≡ true
  lit_at_end v n r [] e = absurd (no_start n r e)
  lit_at_end v n r (Lit ∷ ns) e = stays_lit (searching aim) (Seeks n [] (Calling 0)) (Told r) ns e
  lit_at_end v n r (Got h ∷ ns) e = lit_at_end v n r ns e
  lit_at_end v n r (Lost ∷ ns) e = absurd (no_loss r e)

  pub ends_lit : (v : Bool) (x : X) (ns : List Note) → Ok x ≡ answer_of (searching aim) (progress (searching aim) (Begins 1) ns) → lit_by v ns ≡ true
  ends_lit v x ns e = lit_at_end v 1 (Ok x) ns (told_well x (progress (searching aim) (Begins 1) ns) e)
