-- SENSF_REQ among the bench's devices: Type 3 tags alone hear it, it changes none, and in the light each of them answers it by its identifier.
use Rattle.std.proofs.Common.{◌≡◌, ℕ, zero, suc, ◌+◌, ◌<◌, ◌≤◌, ◌==◌, ◌&&◌, ◌||◌, nat_eq, List, [], ◌∷◌, ◌++◌, map, length, take, drop, replicate, get_or, filter_map, Bool, true, false, if◌then◌else◌}
use Rattle.std.proofs.Common.{Option, None, refl, sym, ◌∙◌, ap, subst, arith}
use Rattle.std.proofs.lemmas.List.{length-append}
use Rattle.std.specs.Cmp.Lexicographic.{pointwise}
use Rattle.std.specs.List.{AllByRecursion}
use Rattle.nfc_base.specs.declared.frame.Tech.TheVariants.{F as NfcF}
use Rattle.nfc_base.specs.Signal.{Signal}
use Rattle.nfc_base.specs.Bits.{bits, of_bits}
use Rattle.air_core.specs.Joint.{Joint, Nothing, Single, Clashing, joint, all_same, same_signal, common_all}
use Rattle.air_core.specs.World.{answered_by, stepped_by, hands_over}
use Rattle.nfca_poll.specs.Crowd.{Each}
use Rattle.nfca_poll.specs.Inventory.{heard_again, IsSteady}
use Rattle.nfca_poll.proofs.quiet.Eaches.{said_none}
use Rattle.t3t_tag.specs.declared.answer.T3Answer.TheVariants.{Polled}
use Rattle.t3t_tag.specs.Spelling.{answer_frame, pad_size}
use Rattle.t3t_tag.specs.Store.{T3State}
use Rattle.t3t_tag.proofs.Bytes.{equal_bytes, bytes_self, front_of}
use Rattle.t3t_access.specs.declared.polling.Fcrowd.{Fcrowd}
use Rattle.t3t_access.specs.declared.polling.Fcrowd.TheVariants.{Nobody, One, Crowd}
use Rattle.t3t_access.specs.Polling.{sensf_req, is_sensf_res, nfcid2, is_of, IsNotOf}
use Rattle.bench_devices.specs.declared.device.Device.{Device}
use Rattle.bench_devices.specs.declared.device.Device.TheVariants.{T2, T4, Peer, T5, T3}
use Rattle.bench_devices.specs.Powered.{Powered}
use Rattle.bench_devices.specs.Device.{devices}
use Rattle.bench_devices.specs.Keeping.{Kept, kept, IsApart, AreSound}
use Rattle.bench_devices.specs.Sensing.{f_if, sensed, is_three, has_three, IsThree, IsNoThree, IsThreeAt}
use Rattle.bench_devices.proofs.turns.QuietPolling.{HandsNone}
use Rattle.bench_devices.proofs.finding.SelectingKept.{IsHarmless}
use Rattle.bench_devices.proofs.finding.SelectingV.{relit}
use Rattle.bench_devices.proofs.finding.Inventoried.{AreOwn}

still_three : (p : Powered T3State) (v : Bool) → p.lit ≡ v → (if v then record { tag = p.tag; lit = true } else p) ≡ p
still_three p true e = ap (λ v. record { tag = p.tag; lit = v }) (sym e)
still_three p false e = refl

-- no device changes at it, ...
pub stays_sensed : (d : Device) → stepped_by devices d sensf_req None ≡ d
stays_sensed (T2 d) = refl
stays_sensed (T4 d) = refl
stays_sensed (Peer d) = refl
stays_sensed (T5 p) = refl
stays_sensed (T3 p) = ap T3 (still_three p p.lit refl)

pub sensed_harmless : IsHarmless sensf_req
sensed_harmless d = ap kept (stays_sensed d)

-- ... nor hands anything over, ...
pub sensed_hands_none : HandsNone sensf_req
sensed_hands_none (T2 d) = refl
sensed_hands_none (T4 d) = refl
sensed_hands_none (Peer d) = refl
sensed_hands_none (T5 p) = refl
sensed_hands_none (T3 p) = refl

again_same : (d : Device) (n : ℕ) → heard_again devices sensf_req d n ≡ d
again_same d zero = refl
again_same d (suc n) = ap (λ l. stepped_by devices l sensf_req None) (again_same d n) ∙ stays_sensed d

-- ... so each is steady.
pub steady_sensed : (d : Device) → IsSteady devices sensf_req d
steady_sensed d heard n = (
  ap (λ l. hands_over devices l sensf_req) (again_same d n) ∙ sensed_hands_none d,
  ap (λ l. answered_by devices l sensf_req None) (again_same d n),
)

-- the answer of the tag with an identifier
abbrev pub res_of : List ℕ → Signal
res_of id = answer_frame (Polled id)

abbrev pub says : Device → Option Signal
says d = answered_by devices d sensf_req None

abbrev pub answers_in : List Device → List Signal
answers_in ds = filter_map says (map relit ds)

pub all_answer : (ds : List Device) → answers_in ds ≡ map res_of (filter_map f_if ds)
all_answer [] = refl
all_answer (T2 d ∷ ds) = all_answer ds
all_answer (T4 d ∷ ds) = all_answer ds
all_answer (Peer d ∷ ds) = all_answer ds
all_answer (T5 p ∷ ds) = all_answer ds
all_answer (T3 p ∷ ds) = ap (λ gs. res_of p.tag.id ∷ gs) (all_answer ds)

-- It is SENSF_RES, and tells the identifier.
pub tells_id : (id : List ℕ) → length id ≡ 8 → nfcid2 (res_of id) ≡ id
tells_id id eight = front_of id (replicate pad_size 0) eight

res_bytes : (id : List ℕ) → length id ≡ 8 → length (res_of id).bytes ≡ 18
res_bytes id eight =
    let long : length (id ++ replicate {A = ℕ} 8 0) ≡ length id + length (replicate {A = ℕ} 8 0) = length-append id (replicate {A = ℕ} 8 0) in
    omega (arith, long, eight)

res_head : (id : List ℕ) → length id ≡ 8 → get_or (res_of id).bytes 0 0 ≡ 18
res_head id eight =
    let long : length (id ++ replicate {A = ℕ} 8 0) ≡ length id + length (replicate {A = ℕ} 8 0) = length-append id (replicate {A = ℕ} 8 0) in
    omega (arith, long, eight)

pub is_res : (id : List ℕ) → length id ≡ 8 → is_sensf_res (res_of id) ≡ true
is_res id eight =
    ap (λ n. ((n == 18) && (0 == 0)) && ((get_or (res_of id).bytes 0 0 == 18) && (get_or (res_of id).bytes 1 0 == 1))) (res_bytes id eight)
    ∙ ap (λ n. (n == 18) && (get_or (res_of id).bytes 1 0 == 1)) (res_head id eight)

pub is_own : (id : List ℕ) → length id ≡ 8 → is_of id (res_of id) ≡ true
is_own id eight = ap (λ i. pointwise nat_eq i id) (tells_id id eight) ∙ bytes_self id

others_apart : (k : Kept) (ds : List Device) → AllByRecursion (IsApart k) (map kept ds) → AllByRecursion (λ j. j ≡ k.fixed.id → ⊥) (filter_map f_if ds)
others_apart k [] a = tt
others_apart k (T2 d ∷ ds) a = others_apart k ds a.1
others_apart k (T4 d ∷ ds) a = others_apart k ds a.1
others_apart k (Peer d ∷ ds) a = others_apart k ds a.1
others_apart k (T5 p ∷ ds) a = others_apart k ds a.1
others_apart k (T3 p ∷ ds) a = (a.0, others_apart k ds a.1)

pub own_ids : (ds : List Device) → AreSound (map kept ds) → AreOwn (filter_map f_if ds)
own_ids [] s = tt
own_ids (T2 d ∷ ds) s = own_ids ds s.2
own_ids (T4 d ∷ ds) s = own_ids ds s.2
own_ids (Peer d ∷ ds) s = own_ids ds s.2
own_ids (T5 p ∷ ds) s = own_ids ds s.2
own_ids (T3 p ∷ ds) s = (s.0.0, others_apart (kept (T3 p)) ds s.1, own_ids ds s.2)

-- answers of two identifiers differ
same_bytes : (i j : List ℕ) → length i ≡ 8 → length j ≡ 8 → pointwise nat_eq (res_of i).bytes (res_of j).bytes ≡ true → j ≡ i
same_bytes i j li lj h =
    let same : (res_of i).bytes ≡ (res_of j).bytes = equal_bytes (res_of i).bytes (res_of j).bytes h in
    sym (tells_id j lj) ∙ ap (λ bytes. take 8 (drop 2 bytes)) (sym same) ∙ tells_id i li

differ : (i j : List ℕ) → length i ≡ 8 → length j ≡ 8 → (j ≡ i → ⊥) → same_signal (res_of i) (res_of j) ≡ false
differ i j li lj other = by_bytes (pointwise nat_eq (res_of i).bytes (res_of j).bytes) refl
  where
    by_bytes : (v : Bool) → pointwise nat_eq (res_of i).bytes (res_of j).bytes ≡ v → (true && (0 == 0)) && v ≡ false
    by_bytes true h = absurd (other (same_bytes i j li lj h))
    by_bytes false h = refl

-- what is told of a joint answer that is heard
abbrev pub Tells : Joint → Fcrowd → Type 0
Tells Nothing v = v ≡ Nobody
Tells (Single g) v = (is_sensf_res g ≡ true) × (One (nfcid2 g) ≡ v)
Tells (Clashing g) v = v ≡ Crowd

pub tells_of : (ids : List (List ℕ)) → AreOwn ids → Tells (joint (map res_of ids)) (sensed ids)
tells_of [] own = refl
tells_of (i ∷ []) own = (is_res i own.0, ap One (tells_id i own.0))
tells_of (i ∷ j ∷ more) own =
    let clash : Signal = of_bits NfcF (common_all (bits (res_of i)) (map bits (map res_of (j ∷ more)))) in
    let apart : all_same (res_of i) (map res_of (j ∷ more)) ≡ false = ap (λ v. v && all_same (res_of i) (map res_of more)) (differ i j own.0 own.2.0 own.1.0) in
    subst (λ v. Tells (if v then Single (res_of i) else Clashing clash) Crowd) (sym apart) refl

-- whole answers of them are SENSF_RES
abbrev pub IsSensed : Joint → Type 0
IsSensed Nothing = Unit {0}
IsSensed (Single g) = is_sensf_res g ≡ true
IsSensed (Clashing g) = Unit {0}

pub sensed_well : (j : Joint) (v : Fcrowd) → Tells j v → IsSensed j
sensed_well Nothing v t = tt
sensed_well (Single g) v t = t.0
sensed_well (Clashing g) v t = tt

-- where nobody answers, there is no Type 3 tag
no_ids : (ids : List (List ℕ)) → map res_of ids ≡ [] → sensed ids ≡ Nobody
no_ids [] e = refl
no_ids (i ∷ is) e = absurd cc

pub none_sensed : (ds : List Device) → Each (λ d. says d ≡ None) (map relit ds) → sensed (filter_map f_if ds) ≡ Nobody
none_sensed ds n = no_ids (filter_map f_if ds) (sym (all_answer ds) ∙ said_none says (map relit ds) n)

-- where no answer is of an identifier, no Type 3 tag has it
pub none_of : (id : List ℕ) (ds : List Device) → AreSound (map kept ds) → Each (IsNotOf devices id) (map relit ds) → IsNoThree id ds
none_of id [] s n = tt
none_of id (T2 d ∷ ds) s n = ((λ e. absurd cc), none_of id ds s.2 n.1)
none_of id (T4 d ∷ ds) s n = ((λ e. absurd cc), none_of id ds s.2 n.1)
none_of id (Peer d ∷ ds) s n = ((λ e. absurd cc), none_of id ds s.2 n.1)
none_of id (T5 p ∷ ds) s n = ((λ e. absurd cc), none_of id ds s.2 n.1)
none_of id (T3 p ∷ ds) s n = (
  (λ e. absurd (
      let told : is_of id (res_of p.tag.id) ≡ false = n.0 (res_of p.tag.id) refl in
      let own : is_of id (res_of p.tag.id) ≡ true = ap (λ i. is_of i (res_of p.tag.id)) (sym e.1) ∙ is_own p.tag.id s.0.0 in
      cc)),
  none_of id ds s.2 n.1,
)

-- whether one is placed is the same before and behind a reset
pub three_relit : (id : List ℕ) (ds : List Device) → has_three id (map relit ds) ≡ has_three id ds
three_relit id [] = refl
three_relit id (T2 d ∷ ds) = three_relit id ds
three_relit id (T4 d ∷ ds) = three_relit id ds
three_relit id (Peer d ∷ ds) = three_relit id ds
three_relit id (T5 p ∷ ds) = three_relit id ds
three_relit id (T3 p ∷ ds) = by_first (pointwise nat_eq p.tag.id id) (three_relit id ds)
  where
    by_first : (v : Bool) → has_three id (map relit ds) ≡ has_three id ds → (v || has_three id (map relit ds)) ≡ (v || has_three id ds)
    by_first true e = refl
    by_first false e = e

-- it is as the devices tell
pub is_three_of : (id : List ℕ) (d : Device) → is_three id d ≡ true → IsThree id d
is_three_of id (T2 d) h = absurd cc
is_three_of id (T4 d) h = absurd cc
is_three_of id (Peer d) h = absurd cc
is_three_of id (T5 p) h = absurd cc
is_three_of id (T3 p) h = (refl, equal_bytes p.tag.id id h)

three_told : (id : List ℕ) (d : Device) → IsThree id d → is_three id d ≡ true
three_told id (T2 d) h = absurd (let k = h.0 in cc)
three_told id (T4 d) h = absurd (let k = h.0 in cc)
three_told id (Peer d) h = absurd (let k = h.0 in cc)
three_told id (T5 p) h = absurd (let k = h.0 in cc)
three_told id (T3 p) h = ap (λ i. pointwise nat_eq i id) h.1 ∙ bytes_self id

-- None of some devices is it exactly where the test finds none.
pub no_three : (id : List ℕ) (ds : List Device) → has_three id ds ≡ false → IsNoThree id ds
no_three id [] h = tt
no_three id (d ∷ ds) h = by_first (is_three id d) refl h (λ k. no_three id ds k)
  where
    by_first : (v : Bool) → is_three id d ≡ v → (v || has_three id ds) ≡ false → (has_three id ds ≡ false → IsNoThree id ds) → IsNoThree id (d ∷ ds)
    by_first true e k more = absurd cc
    by_first false e k more = ((λ t. absurd (let is : is_three id d ≡ true = three_told id d t in cc)), more k)

pub none_three : (id : List ℕ) (ds : List Device) → IsNoThree id ds → has_three id ds ≡ false
none_three id [] h = refl
none_three id (d ∷ ds) h = by_first (is_three id d) refl (none_three id ds h.1)
  where
    by_first : (v : Bool) → is_three id d ≡ v → has_three id ds ≡ false → (v || has_three id ds) ≡ false
    by_first true e more = absurd (h.0 (is_three_of id d e))
    by_first false e more = more

pub three_amid : (id : List ℕ) (before : List Device) (d : Device) (behind : List Device) → IsThree id d → has_three id (before ++ d ∷ behind) ≡ true
three_amid id [] d behind is = ap (λ v. v || has_three id behind) (three_told id d is)
three_amid id (l ∷ ls) d behind is = by_first (is_three id l) (three_amid id ls d behind is)
  where
    by_first : (v : Bool) → has_three id (ls ++ d ∷ behind) ≡ true → (v || has_three id (ls ++ d ∷ behind)) ≡ true
    by_first true e = refl
    by_first false e = e

pub three_at : (id : List ℕ) (ds : List Device) (place : ℕ) (x : Device) → place < length ds → is_three id (get_or ds place x) ≡ true → IsThreeAt id ds place
three_at id [] place x less is = absurd (omega (arith, less))
three_at id (d ∷ ds) zero x less is =
    let t : IsThree id d = is_three_of id d is in
    record { at = record { before = []; device = d; behind = ds; split = refl; at = refl; named = t.1 }; three = t.0 }
three_at id (d ∷ ds) (suc n) x less is =
    let r : IsThreeAt id ds n = three_at id ds n x (omega (arith, less)) is in
    record {
      at = record { before = d ∷ r.at.before; device = r.at.device; behind = r.at.behind; split = ap (λ xs. d ∷ xs) r.at.split; at = ap suc r.at.at; named = r.at.named };
      three = r.three;
    }

pub three_past : (id : List ℕ) (ds : List Device) (place : ℕ) → length ds ≤ place → has_three id (drop place ds) ≡ false
three_past id [] zero h = refl
three_past id [] (suc n) h = refl
three_past id (d ∷ ds) zero h = absurd (omega (arith, h))
three_past id (d ∷ ds) (suc n) h = three_past id ds n (omega (arith, h))
