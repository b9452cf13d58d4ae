-- What a resolution answers follows from what it heard.
use Rattle.std.proofs.Common.{◌≡◌, ◌<◌, ◌≤◌, ℕ, ◌+◌, List, [], ◌∷◌, ◌++◌, length, filter, slice_index, Bool, true, false, not, ◌==◌, ◌&&◌, nat_lt, nat_le, if◌then◌else◌, Option, Some, None, Result}
use Rattle.std.proofs.Common.{Err, refl, sym, ◌∙◌, ap, subst, arith}
use Rattle.std.proofs.lemmas.List.{length-append}
use Rattle.std.proofs.lemmas.List.Elements.{filter-append}
use Rattle.nfc_base.specs.Signal.{Signal}
use Rattle.nfc_base.specs.Bits.{bits, packed}
use Rattle.nfc_base.specs.Trace.{Turn, heard, is_silence}
use Rattle.nfc_base.specs.declared.event.Heard.{Heard}
use Rattle.nfc_base.specs.declared.event.Heard.TheVariants.{Whole, Collided, Damaged, Silent}
use Rattle.air_core.specs.Joint.{same_bit}
use Rattle.air_core.specs.Conversation.{LightUp, Asks, note}
use Rattle.air_core.specs.World.{Machine}
use Rattle.air_core.specs.Turn.{Air}
use Rattle.nfca_poll.specs.declared.fault.Picked.{Picked}
use Rattle.nfca_poll.specs.declared.fault.PollFault.{PollFault}
use Rattle.nfca_poll.specs.declared.fault.PollFault.TheVariants as faults
use Rattle.nfca_poll.specs.Levels.{cascades}
use Rattle.nfca_poll.specs.Calls.{Reading, Calls, Sens, Sdd, Sel, call_of, call_frame, is_short}
use Rattle.nfca_poll.specs.Counting.{is_sens_req}
use Rattle.nfca_poll.specs.Enquiry.{Progress, Reaches, Loses, progress, answer_of, Enquires}
use Rattle.nfca_poll.specs.Poll.{Seek, Calling, Asking, Selecting, Ended, Nobody, BadAnswer, Found, seek_next, selected, goes_on, kind_of, has_bit, is_one_byte, is_level, level_bits, collision_bits}
use Rattle.nfca_poll.specs.Seeking.{resolution, outcome}
use Rattle.nfca_poll.specs.ByHeard.{silences, presence_turns, is_wrong, is_missed, has_wrong, has_missed, TellsResolution, turns_since}
use Rattle.nfca_poll.proofs.identifiers.CallsRead.{sdd_read, sel_read}
use Rattle.nfca_poll.proofs.enquiries.SeekSteps.{packed_forty}
use Rattle.nfca_poll.proofs.enquiries.EnquiryWalks.{after}
use Rattle.nfca_poll.proofs.enquiries.TurnWalks.{turns_hold}
use Rattle.nfca_poll.proofs.enquiries.TellingInventory.{any_none, any_one, less_of, not_both}

abbrev one_if : Bool → ℕ
one_if v = if v then 1 else 0

-- a turn more among those that ask by SENS_REQ
one_presence : (v w : Bool) (t : Turn) → w ≡ is_silence (heard t) → silences (if v then t ∷ [] else []) ≡ one_if (v && w)
one_presence false w t e = refl
one_presence true w t e = by_test (is_silence (heard t)) refl ∙ ap one_if (sym e)
  where
    by_test : (u : Bool) → is_silence (heard t) ≡ u → length (if u then t ∷ [] else []) ≡ one_if u
    by_test true q = refl
    by_test false q = refl

presence_more : (ts : List Turn) (t : Turn) → silences (presence_turns (ts ++ t ∷ [])) ≡ silences (presence_turns ts) + one_if (is_sens_req t.request && is_silence (heard t))
presence_more ts t =
    let p : Turn → Bool = λ u. is_sens_req u.request in
    let q : Turn → Bool = λ u. is_silence (heard u) in
    ap silences (filter-append p ts (t ∷ [])) ∙ ap length (filter-append q (filter p ts) (filter p (t ∷ []))) ∙ length-append (filter q (filter p ts)) (filter q (filter p (t ∷ [])))
    ∙ ap (λ n. silences (presence_turns ts) + n) (one_presence (is_sens_req t.request) (is_silence (heard t)) t refl)

-- what a turn adds
record Adds (ts us : List Turn) (sens : Bool) (r : Reading) (o : Option Heard) : Type 0 where
  silent : silences (presence_turns us) ≡ silences (presence_turns ts) + one_if (sens && is_silence o)
  kept : is_missed r o ≡ false → has_missed us ≡ has_missed ts
  missed : is_missed r o ≡ true → has_missed us ≡ true
  well : is_wrong r o ≡ false → has_wrong us ≡ has_wrong ts
  wrong : is_wrong r o ≡ true → has_wrong us ≡ true

adds : (ts : List Turn) (t : Turn) → Adds ts (ts ++ t ∷ []) (is_sens_req t.request) (call_of t.request) (heard t)
adds ts t = record {
  silent = presence_more ts t;
  kept = any_none (λ u. is_missed (call_of u.request) (heard u)) ts t;
  missed = any_one (λ u. is_missed (call_of u.request) (heard u)) ts t;
  well = any_none (λ u. is_wrong (call_of u.request) (heard u)) ts t;
  wrong = any_one (λ u. is_wrong (call_of u.request) (heard u)) ts t;
}

-- a resolution so far: no bad reception once presence was shown, and no wrong answer
pub record Clean (ts : List Turn) : Type 0 where
  pub missed : has_missed ts ≡ false
  pub wrong : has_wrong ts ≡ false

abbrev pub At : Progress Seek → List Turn → Type 0
At (Reaches (Calling n)) ts = Clean ts × (silences (presence_turns ts) ≡ n) × (n ≤ 3)
At (Reaches (Asking done known)) ts = Clean ts × (silences (presence_turns ts) ≤ 3) × (length done ≤ 2) × (length known ≤ 32)
At (Reaches (Selecting done l)) ts = Clean ts × (silences (presence_turns ts) ≤ 3) × (length done ≤ 2) × (length l ≡ 5)
At (Reaches (Ended o)) ts = TellsResolution ts (outcome o)
At Loses ts = Clean ts × (silences (presence_turns ts) ≤ 3)

-- how it may end
tells_nobody : (us : List Turn) → Clean us → silences (presence_turns us) ≡ 4 → TellsResolution us (Err faults.Nobody)
tells_nobody us c k = record {
  nobody = (λ e. k, λ e. refl);
  disturbed = (λ e. absurd cc, λ e. absurd (not_both (has_missed us) c.missed e));
  bad = (λ e. absurd cc, λ e. absurd (not_both (has_wrong us) c.wrong e));
}

tells_disturbed : (us : List Turn) → silences (presence_turns us) ≤ 3 → has_missed us ≡ true → has_wrong us ≡ false → TellsResolution us (Err faults.Disturbed)
tells_disturbed us k m w = record {
  nobody = (λ e. absurd cc, λ e. absurd (omega (arith, k, e)));
  disturbed = (λ e. m, λ e. refl);
  bad = (λ e. absurd cc, λ e. absurd (not_both (has_wrong us) w e));
}

tells_bad : (us : List Turn) → silences (presence_turns us) ≤ 3 → has_missed us ≡ false → has_wrong us ≡ true → TellsResolution us (Err faults.BadAnswer)
tells_bad us k m w = record {
  nobody = (λ e. absurd cc, λ e. absurd (omega (arith, k, e)));
  disturbed = (λ e. absurd cc, λ e. absurd (not_both (has_missed us) m e));
  bad = (λ e. w, λ e. refl);
}

tells_other : (us : List Turn) (r : Result Picked PollFault) → Clean us → silences (presence_turns us) ≤ 3
    → (r ≡ Err faults.Nobody → ⊥) → (r ≡ Err faults.Disturbed → ⊥) → (r ≡ Err faults.BadAnswer → ⊥) → TellsResolution us r
tells_other us r c k a b d = record {
  nobody = (λ e. absurd (a e), λ e. absurd (omega (arith, k, e)));
  disturbed = (λ e. absurd (b e), λ e. absurd (not_both (has_missed us) c.missed e));
  bad = (λ e. absurd (d e), λ e. absurd (not_both (has_wrong us) c.wrong e));
}

far_of : (a b : ℕ) → nat_lt a b ≡ false → b ≤ a
far_of a b h = grind arith

pub under_of : (a b : ℕ) → nat_le a b ≡ false → b < a
under_of a b h = grind arith

-- SENS_REQ: a call that is silent counts
clean : (ts us : List Turn) (sens : Bool) (r : Reading) (o : Option Heard) → Adds ts us sens r o → Clean ts → is_missed r o ≡ false → is_wrong r o ≡ false → Clean us
clean ts us sens r o a c m w = record { missed = a.kept m ∙ c.missed; wrong = a.well w ∙ c.wrong }

called : (n : ℕ) (us : List Turn) → Clean us → silences (presence_turns us) ≡ n + 1 → n ≤ 3 → (v : Bool) → nat_lt n 3 ≡ v → At (Reaches (if v then Calling (n + 1) else Ended Nobody)) us
called n us c k most true h = (c, k, let l = less_of n 3 h in omega (arith, l))
called n us c k most false h = tells_nobody us c (let l = far_of n 3 h in omega (arith, k, most, l))

presence_heard : (n : ℕ) (ts us : List Turn) (o : Option Heard) → At (Reaches (Calling n)) ts → Adds ts us true (Calls Sens) o → At (after resolution (Reaches (Calling n)) (note o)) us
presence_heard n ts us None k a = (clean ts us true (Calls Sens) None a k.0 refl refl, omega (arith, a.silent, k.1, k.2))
presence_heard n ts us (Some (Whole g)) k a = (clean ts us true (Calls Sens) (Some (Whole g)) a k.0 refl refl, omega (arith, a.silent, k.1, k.2), omega arith, omega arith)
presence_heard n ts us (Some (Collided g)) k a = (clean ts us true (Calls Sens) (Some (Collided g)) a k.0 refl refl, omega (arith, a.silent, k.1, k.2), omega arith, omega arith)
presence_heard n ts us (Some Damaged) k a = (clean ts us true (Calls Sens) (Some Damaged) a k.0 refl refl, omega (arith, a.silent, k.1, k.2), omega arith, omega arith)
presence_heard n ts us (Some Silent) k a =
    called n us (clean ts us true (Calls Sens) (Some Silent) a k.0 refl refl) (a.silent ∙ ap (λ x. x + 1) k.1) k.2 (nat_lt n 3) refl

-- SDD_REQ
forty : (n : ℕ) (w : Bool) → ((n == level_bits) && w) ≡ true → n ≡ 40
forty n w h = grind arith

level_heard : (done : List (List ℕ)) (known : List Bool) (us : List Turn) → silences (presence_turns us) ≤ 3 → length done ≤ 2 → has_missed us ≡ false
    → (v : Bool) → is_level known ≡ v → (not v ≡ false → has_wrong us ≡ false) → (not v ≡ true → has_wrong us ≡ true)
    → At (Reaches (if v then Selecting done (packed known) else Ended BadAnswer)) us
level_heard done known us k d m true h well ill = (record { missed = m; wrong = well refl }, k, d, packed_forty known (forty (length known) _ h))
level_heard done known us k d m false h well ill = tells_bad us k m (ill refl)

clash_heard : (done : List (List ℕ)) (known : List Bool) (us : List Turn) → silences (presence_turns us) ≤ 3 → length done ≤ 2 → has_missed us ≡ false
    → (v : Bool) → nat_le collision_bits (length known) ≡ v → (v ≡ false → has_wrong us ≡ false) → (v ≡ true → has_wrong us ≡ true)
    → At (Reaches (if v then Ended BadAnswer else Asking done (known ++ true ∷ []))) us
clash_heard done known us k d m true h well ill = tells_bad us k m (ill refl)
clash_heard done known us k d m false h well ill =
    let few : length known < 32 = under_of 32 (length known) h in
    let one : length (known ++ true ∷ []) ≡ length known + 1 = length-append known (true ∷ []) in
    (record { missed = m; wrong = well refl }, k, d, omega (arith, few, one))

sdd_heard : (done : List (List ℕ)) (known : List Bool) (i : ℕ) (ts us : List Turn) (o : Option Heard) → At (Reaches (Asking done known)) ts → Adds ts us false (Calls (Sdd i known)) o
    → At (after resolution (Reaches (Asking done known)) (note o)) us
sdd_heard done known i ts us None k a = (clean ts us false (Calls (Sdd i known)) None a k.0 refl refl, omega (arith, a.silent, k.1))
sdd_heard done known i ts us (Some (Whole g)) k a =
    level_heard done (known ++ bits g) us (omega (arith, a.silent, k.1)) k.2 (a.kept refl ∙ k.0.missed) (is_level (known ++ bits g)) refl (λ e. a.well e ∙ k.0.wrong) a.wrong
sdd_heard done known i ts us (Some (Collided g)) k a =
    clash_heard done (known ++ bits g) us (omega (arith, a.silent, k.1)) k.2 (a.kept refl ∙ k.0.missed) (nat_le collision_bits (length (known ++ bits g))) refl (λ e. a.well e ∙ k.0.wrong) a.wrong
sdd_heard done known i ts us (Some Damaged) k a = tells_disturbed us (omega (arith, a.silent, k.1)) (a.missed refl) (a.well refl ∙ k.0.wrong)
sdd_heard done known i ts us (Some Silent) k a = tells_disturbed us (omega (arith, a.silent, k.1)) (a.missed refl) (a.well refl ∙ k.0.wrong)

-- SEL_REQ
goes_few : (done : List (List ℕ)) (l : List ℕ) (v : Bool) → nat_lt (length done) 2 ≡ v → v && cascades l ≡ true → length done < 2
goes_few done l true h g = less_of (length done) 2 h
goes_few done l false h g = absurd cc

sel_res_heard : (done : List (List ℕ)) (l : List ℕ) (res : ℕ) (us : List Turn) → silences (presence_turns us) ≤ 3 → has_missed us ≡ false
    → (h g : Bool) → goes_on done l ≡ g → (not (same_bit h g) ≡ false → has_wrong us ≡ false) → (not (same_bit h g) ≡ true → has_wrong us ≡ true)
    → At (Reaches (if h then (if g then Asking (done ++ l ∷ []) [] else Ended BadAnswer) else (if g then Ended BadAnswer else Ended (Found (done ++ l ∷ []) (kind_of res))))) us
sel_res_heard done l res us k m true true e well ill =
    let few : length done < 2 = goes_few done l (nat_lt (length done) 2) refl e in
    let one : length (done ++ l ∷ []) ≡ length done + 1 = length-append done (l ∷ []) in
    (record { missed = m; wrong = well refl }, k, omega (arith, few, one), omega arith)
sel_res_heard done l res us k m true false e well ill = tells_bad us k m (ill refl)
sel_res_heard done l res us k m false true e well ill = tells_bad us k m (ill refl)
sel_res_heard done l res us k m false false e well ill = tells_other us _ (record { missed = m; wrong = well refl }) k (λ q. cc) (λ q. cc) (λ q. cc)

third : (n : ℕ) → nat_lt (n + 1) 3 ≡ nat_lt n 2
third n = grind arith

sel_byte_heard : (done : List (List ℕ)) (l : List ℕ) (res : ℕ) (us : List Turn) → silences (presence_turns us) ≤ 3 → has_missed us ≡ false
    → (v : Bool) → (not (v && same_bit (has_bit res 0x04) (nat_lt (length done + 1) 3 && cascades l)) ≡ false → has_wrong us ≡ false)
    → (not (v && same_bit (has_bit res 0x04) (nat_lt (length done + 1) 3 && cascades l)) ≡ true → has_wrong us ≡ true)
    → At (Reaches (if v then selected done l res else Ended BadAnswer)) us
sel_byte_heard done l res us k m true well ill =
    let same : not (same_bit (has_bit res 0x04) (nat_lt (length done + 1) 3 && cascades l)) ≡ not (same_bit (has_bit res 0x04) (goes_on done l)) =
    ap (λ v. not (same_bit (has_bit res 0x04) (v && cascades l))) (third (length done)) in
    sel_res_heard done l res us k m (has_bit res 0x04) (goes_on done l) refl (λ e. well (same ∙ e)) (λ e. ill (same ∙ e))
sel_byte_heard done l res us k m false well ill = tells_bad us k m (ill refl)

sel_heard : (done : List (List ℕ)) (l : List ℕ) (ts us : List Turn) (o : Option Heard) → At (Reaches (Selecting done l)) ts → Adds ts us false (Calls (Sel (length done + 1) l)) o
    → At (after resolution (Reaches (Selecting done l)) (note o)) us
sel_heard done l ts us None k a = (clean ts us false (Calls (Sel (length done + 1) l)) None a k.0 refl refl, omega (arith, a.silent, k.1))
sel_heard done l ts us (Some (Whole g)) k a =
    sel_byte_heard done l (slice_index g.bytes 0) us (omega (arith, a.silent, k.1)) (a.kept refl ∙ k.0.missed) (is_one_byte g) (λ e. a.well e ∙ k.0.wrong) a.wrong
sel_heard done l ts us (Some (Collided g)) k a = tells_bad us (omega (arith, a.silent, k.1)) (a.kept refl ∙ k.0.missed) (a.wrong refl)
sel_heard done l ts us (Some Damaged) k a = tells_disturbed us (omega (arith, a.silent, k.1)) (a.missed refl) (a.well refl ∙ k.0.wrong)
sel_heard done l ts us (Some Silent) k a = tells_disturbed us (omega (arith, a.silent, k.1)) (a.missed refl) (a.well refl ∙ k.0.wrong)

-- the request that is due is read as it was meant
no_sens : (v : Bool) (r s : Reading) → (if v then Calls Sens else r) ≡ s → (Calls Sens ≡ s → ⊥) → v ≡ false
no_sens true r s e n = absurd (n e)
no_sens false r s e n = refl

not_sens : (f : Signal) (s : Reading) → call_of f ≡ s → (Calls Sens ≡ s → ⊥) → is_sens_req f ≡ false
not_sens f s e n = no_sens (is_short f 0x26) _ s e n

pub due : (f g : Signal) → Asks f ≡ Asks g → g ≡ f
due f g e = cc

pub asked : (s : Seek) (ts : List Turn) (t : Turn) → At (Reaches s) ts → seek_next s ≡ Asks t.request → At (after resolution (Reaches s) (note (heard t))) (ts ++ t ∷ [])
asked (Calling n) ts t k e =
    let f : t.request ≡ call_frame Sens = due (call_frame Sens) t.request e in
    let A : Bool → Reading → Type 0 = λ v r. Adds ts (ts ++ t ∷ []) v r (heard t) in
    let G : Signal → Type 0 = λ x. A (is_sens_req x) (call_of x) in
    presence_heard n ts (ts ++ t ∷ []) (heard t) k (subst G f (adds ts t))
asked (Asking done known) ts t k e =
    let i : ℕ = length done + 1 in
    let f : t.request ≡ call_frame (Sdd i known) = due (call_frame (Sdd i known)) t.request e in
    let c : call_of t.request ≡ Calls (Sdd i known) = ap call_of f ∙ sdd_read i known (omega arith) (omega (arith, k.2)) (omega (arith, k.3)) in
    let A : Bool → Type 0 = λ v. Adds ts (ts ++ t ∷ []) v (call_of t.request) (heard t) in
    let G : Reading → Type 0 = λ r. Adds ts (ts ++ t ∷ []) false r (heard t) in
    sdd_heard done known i ts (ts ++ t ∷ []) (heard t) k (subst G c (subst A (not_sens t.request (Calls (Sdd i known)) c (λ q. cc)) (adds ts t)))
asked (Selecting done l) ts t k e =
    let i : ℕ = length done + 1 in
    let f : t.request ≡ call_frame (Sel i l) = due (call_frame (Sel i l)) t.request e in
    let c : call_of t.request ≡ Calls (Sel i l) = ap call_of f ∙ sel_read i l (omega arith) (omega (arith, k.2)) k.3 in
    let A : Bool → Type 0 = λ v. Adds ts (ts ++ t ∷ []) v (call_of t.request) (heard t) in
    let G : Reading → Type 0 = λ r. Adds ts (ts ++ t ∷ []) false r (heard t) in
    sel_heard done l ts (ts ++ t ∷ []) (heard t) k (subst G c (subst A (not_sens t.request (Calls (Sel i l)) c (λ q. cc)) (adds ts t)))
asked (Ended o) ts t k e = absurd cc

never_lit : (s : Seek) (ts : List Turn) → At (Reaches s) ts → seek_next s ≡ LightUp → At (Reaches s) ts
never_lit s ts k e = k

-- how it ends
ends : (p : Progress Seek) (ts : List Turn) → At p ts → TellsResolution ts (answer_of resolution p)
ends (Reaches (Calling n)) ts k = tells_other ts (Err faults.Memory) k.0 (omega (arith, k.1, k.2)) (λ e. cc) (λ e. cc) (λ e. cc)
ends (Reaches (Asking done known)) ts k = tells_other ts (Err faults.Memory) k.0 k.1 (λ e. cc) (λ e. cc) (λ e. cc)
ends (Reaches (Selecting done l)) ts k = tells_other ts (Err faults.Memory) k.0 k.1 (λ e. cc) (λ e. cc) (λ e. cc)
ends (Reaches (Ended o)) ts k = k
ends Loses ts k = tells_other ts (Err faults.FieldLost) k.0 k.1 (λ e. cc) (λ e. cc) (λ e. cc)

pub begins : At (Reaches resolution.start) []
begins = (record { missed = refl; wrong = refl }, refl, omega arith)

pub tells_resolution : {L : Type 0} (m : Machine L) (old new : Air L) (r : Result Picked PollFault) → Enquires resolution m old r new → TellsResolution (turns_since old new) r
tells_resolution m old new r q =
    let T : Result Picked PollFault → Type 0 = λ x. TellsResolution (turns_since old new) x in
    subst T (sym q.comes) (ends (progress resolution resolution.start q.notes) (turns_since old new) (turns_hold resolution m At begins never_lit asked old new r q))
