-- The Type 5 tags of the bench among its devices, as a search for all of them meets them: it changes nothing that stays.
use Rattle.std.proofs.Common.{◌≡◌, ℕ, suc, ◌<◌, ◌≤◌, arith, List, [], ◌∷◌, map, length, slice_index, take, drop, filter_map, Bool, true, false, not, ◌&&◌, ◌==◌, nat_eq, replicate, if◌then◌else◌}
use Rattle.std.proofs.Common.{Option, Some, None, refl, sym, ◌∙◌, ap, subst}
use Rattle.std.specs.Int.{w64, to_le_bytes}
use Rattle.std.specs.List.{AllByRecursion}
use Rattle.nfc_base.specs.declared.frame.Tech.TheVariants.{A, V, F}
use Rattle.nfc_base.specs.Far.{Untouched}
use Rattle.nfc_base.specs.Signal.{Signal}
use Rattle.air_core.specs.Conversation.{Note, Asks}
use Rattle.air_core.specs.Joint.{same_tech}
use Rattle.nfca_poll.specs.Crowd.{Each}
use Rattle.nfca_poll.specs.Enquiry.{Progress, Reaches, Loses, progress, due_of}
use Rattle.t5t_tag.specs.declared.command.T5Command.TheVariants.{Inventory, NextSlot, Quiet}
use Rattle.t5t_tag.specs.declared.round.Round.{Round}
use Rattle.t5t_tag.specs.declared.answer.T5Answer.TheVariants.{Present}
use Rattle.t5t_tag.specs.Mask.{low_first, mask_size, asks_for}
use Rattle.t5t_tag.specs.Slots.{asks_in_slots, begun, slot_of}
use Rattle.t5t_tag.specs.Spelling.{command_frame, quiet_code, inventory_code}
use Rattle.t5t_tag.specs.Step.{T5Turn, Unknown, silent, tells, asked, asked_turn, obeyed, names, addressed, next_round, in_slot, out_of_round, t5_answer, t5_after, asked_by_pair}
use Rattle.t5t_tag.specs.Store.{T5State, id_size, darkened}
use Rattle.t5t_tag.proofs.Turns.{hushes}
use Rattle.nfcv_poll.specs.declared.mask.Mask.{Mask}
use Rattle.nfcv_poll.specs.declared.search.Stage.{Stage}
use Rattle.nfcv_poll.specs.declared.search.Stage.TheVariants as stages
use Rattle.nfcv_poll.specs.Masks.{slots_frame}
use Rattle.nfcv_poll.specs.Search.{Course, Begins, Runs, asked_for, course_next, stage_request, finding_all}
use Rattle.nfcv_poll.specs.Tags.{StepAsTags, tag_ids}
use Rattle.nfcv_poll.specs.Crowd.{AreOwn, AreCrowd}
use Rattle.bench_devices.specs.declared.device.Device.{Device}
use Rattle.bench_devices.specs.declared.device.Device.TheVariants.{T2, T4, Peer, T5, T3}
use Rattle.bench_devices.specs.Crowded.{v_if}
use Rattle.bench_devices.specs.Device.{devices}
use Rattle.bench_devices.specs.Keeping.{Kept, kept, IsApart, AreSound, AreTame}
use Rattle.bench_devices.specs.Crowding.{crowding}
use Rattle.air_core.proofs.Following.{same_asked, light_is_no_request, over_is_no_request}
use Rattle.bench_devices.proofs.finding.SelectingKept.{IsHarmless}

-- What holds of each request that a search makes.
module _ (P : Signal → Type 0) (slotted : (m : Mask) → P (slots_frame m)) (moving : P (command_frame NextSlot)) (hushing : (id : List ℕ) → P (command_frame (Quiet id)))
    (asking : (mask : List ℕ) → P (command_frame (Inventory 0 mask))) where
  by_slot : (m : Mask) (v : Bool) → P (if v then slots_frame m else command_frame NextSlot)
  by_slot m true = slotted m
  by_slot m false = moving

  by_stage : (t : Stage) (f : Signal) → asked_for (stage_request t) ≡ Asks f → P f
  by_stage (stages.Slot m slot) f e = subst P (same_asked (if nat_eq slot 0 then slots_frame m else command_frame NextSlot) f e) (by_slot m (nat_eq slot 0))
  by_stage (stages.Hush id next) f e = subst P (same_asked (command_frame (Quiet id)) f e) (hushing id)
  by_stage (stages.WhoIsLeft asked) f e = subst P (same_asked (command_frame (Inventory 0 (replicate id_size 0))) f e) (asking (replicate id_size 0))
  by_stage stages.Over f e = absurd (over_is_no_request f e)
  by_stage (stages.Fails fault) f e = absurd (over_is_no_request f e)

  by_course : (c : Course) (f : Signal) → course_next c ≡ Asks f → P f
  by_course Begins f e = absurd (light_is_no_request f e)
  by_course (Runs s) f e = by_stage s.stage f e

  by_progress : (p : Progress Course) (f : Signal) → due_of finding_all p ≡ Asks f → P f
  by_progress (Reaches c) f e = by_course c f e
  by_progress Loses f e = absurd (over_is_no_request f e)

  pub each_request : (ns : List Note) (f : Signal) → crowding ns ≡ Asks f → P f
  each_request ns f e = by_progress (progress finding_all Begins ns) f e

pub of_nfc_v : (ns : List Note) (f : Signal) → crowding ns ≡ Asks f → f.tech ≡ V
of_nfc_v = each_request (λ f. f.tech ≡ V) (λ m. refl) refl (λ id. refl) (λ mask. refl)

-- a tag but for what the field gives it: whether it is quiet, and its round
record IsLike (t u : T5State) : Type 0 where
  quiet : Bool
  round : Option Round
  same : u ≡ record t { quiet = quiet; round = round }

like_same : (t : T5State) → IsLike t t
like_same t = record { quiet = t.quiet; round = t.round; same = refl }

like_out : (t u : T5State) → IsLike (out_of_round t) u → IsLike t u
like_out t u h = record { quiet = h.quiet; round = h.round; same = h.same }

like_if : (t : T5State) (v : Bool) (x y : T5Turn) → IsLike t x.after → IsLike t y.after → IsLike t (if v then x else y).after
like_if t true x y p q = p
like_if t false x y p q = q

like_slot : (t : T5State) (round : Option Round) → IsLike t (in_slot t round).after
like_slot t round = record { quiet = t.quiet; round = round; same = refl }

-- STAY QUIET asks for no block
quiet_asks : (rest : List ℕ) → asked quiet_code rest ≡ Unknown
quiet_asks [] = refl
quiet_asks (b ∷ []) = refl
quiet_asks (a ∷ b ∷ rest) = by_rest (length rest == 0)
  where
    by_rest : (v : Bool) → (if v then asked_by_pair quiet_code a b else Unknown) ≡ Unknown
    by_rest true = refl
    by_rest false = refl

like_obeyed : (t : T5State) (rest : List ℕ) → IsLike t (obeyed t quiet_code rest).after
like_obeyed t rest = subst (λ x. IsLike t (asked_turn t x).after) (sym (quiet_asks rest)) (like_same t)

like_hushed : (t : T5State) (id : List ℕ) → IsLike t (addressed t (quiet_code ∷ low_first id)).after
like_hushed t id =
    like_if t (not (names t (low_first id))) (silent t)
    (if (quiet_code == quiet_code) && (length (low_first id) == id_size) then hushes t else obeyed t quiet_code (drop id_size (low_first id)))
    (like_same t)
    (like_if t ((quiet_code == quiet_code) && (length (low_first id) == id_size)) (hushes t) (obeyed t quiet_code (drop id_size (low_first id)))
    (record { quiet = true; round = t.round; same = refl })
    (like_obeyed t (drop id_size (low_first id))))

-- so it is left by each request of a search
abbrev LeavesLike : Signal → Type 0
LeavesLike f = (t : T5State) → IsLike t (t5_after t f)

after_slots : (m : Mask) → LeavesLike (slots_frame m)
after_slots m t =
    let mask : List ℕ = take (mask_size m.bits) (to_le_bytes w64 m.value) in
    let out : T5State = out_of_round t in
    like_out t (t5_after t (slots_frame m))
    (like_if out ((inventory_code == inventory_code) && not out.quiet && asks_in_slots out.id m.bits mask) (in_slot out (Some (begun (slot_of out.id m.bits)))) (silent out)
    (like_slot out (Some (begun (slot_of out.id m.bits)))) (like_same out))

after_moving : LeavesLike (command_frame NextSlot)
after_moving t = like_slot t (next_round t.round)

after_hushing : (id : List ℕ) → LeavesLike (command_frame (Quiet id))
after_hushing id t = like_out t (t5_after t (command_frame (Quiet id))) (like_hushed (out_of_round t) id)

after_asking : (mask : List ℕ) → LeavesLike (command_frame (Inventory 0 mask))
after_asking mask t =
    let sent_mask : List ℕ = take (mask_size 0) mask in
    let out : T5State = out_of_round t in
    like_out t (t5_after t (command_frame (Inventory 0 mask)))
    (like_if out ((inventory_code == inventory_code) && not out.quiet && asks_for out.id 0 sent_mask) (tells out (Present out.id)) (silent out) (like_same out) (like_same out))

kept_like : (t u : T5State) (lit : Bool) → IsLike t u → kept (T5 (record { tag = u; lit = lit })) ≡ kept (T5 (record { tag = t; lit = lit }))
kept_like t u lit h = ap (λ x. kept (T5 (record { tag = x; lit = lit }))) h.same

kept_after : (t : T5State) (lit : Bool) (f : Signal) → LeavesLike f → kept (devices.after (T5 (record { tag = t; lit = lit })) f None) ≡ kept (T5 (record { tag = t; lit = lit }))
kept_after t true f h = kept_like t (t5_after t f) true (h t)
kept_after t false f h = refl

-- A frame of NFC-V that leaves Type 5 tags like this changes no device but in its state.
harmless_by : (f : Signal) → f.tech ≡ V → LeavesLike f → IsHarmless f
harmless_by f is h (T2 d) = ap (λ x. kept (if same_tech A x then devices.after (T2 d) f None else T2 d)) is
harmless_by f is h (T4 d) = ap (λ x. kept (if same_tech A x then devices.after (T4 d) f None else T4 d)) is
harmless_by f is h (T3 p) = ap (λ x. kept (if same_tech F x then devices.after (T3 p) f None else T3 p)) is
harmless_by f is h (Peer d) = ap (λ x. kept (if same_tech A x then devices.after (Peer d) f None else Peer d)) is
harmless_by f is h (T5 p) = ap (λ x. kept (if same_tech V x then devices.after (T5 p) f None else T5 p)) is ∙ kept_after p.tag p.lit f h

pub crowd_harmless : (ns : List Note) (f : Signal) → crowding ns ≡ Asks f → IsHarmless f
crowd_harmless ns f e = harmless_by f (of_nfc_v ns f e) (each_request LeavesLike after_slots after_moving after_hushing after_asking ns f e)

-- The Type 5 tags among the devices, which step as Type 5 tags once light has come to them.
abbrev no_tag : T5State
no_tag = record { id = []; store = []; size = 0; locked = []; quiet = false; round = None }

abbrev pub tag_of : Device → T5State
tag_of (T2 d) = no_tag
tag_of (T4 d) = no_tag
tag_of (T3 p) = no_tag
tag_of (Peer d) = no_tag
tag_of (T5 p) = p.tag

abbrev pub lit_of : Device → Bool
lit_of (T2 d) = false
lit_of (T4 d) = false
lit_of (T3 p) = false
lit_of (Peer d) = false
lit_of (T5 p) = p.lit

pub steps_as_tags : StepAsTags devices tag_of lit_of
steps_as_tags = record {
  woken = woken;
  untouched = untouched;
  answers = answers;
  goes = goes;
  woken_tech = woken_tech;
  after_tech = after_tech;
}
  where
    woken : (d : Device) → devices.tech d ≡ V → (lit_of (devices.woken (devices.darkened d)) ≡ true) × (tag_of (devices.woken (devices.darkened d)) ≡ darkened (tag_of d))
    woken (T2 d) e = absurd cc
    woken (T4 d) e = absurd cc
    woken (T3 p) e = absurd cc
    woken (Peer d) e = absurd cc
    woken (T5 p) e = (refl, refl)

    untouched : (d : Device) (f : Signal) → devices.tech d ≡ V → devices.handed d f ≡ Untouched
    untouched (T2 d) f e = absurd cc
    untouched (T4 d) f e = absurd cc
    untouched (T3 p) f e = absurd cc
    untouched (Peer d) f e = absurd cc
    untouched (T5 p) f e = refl

    answers : (d : Device) (f : Signal) → devices.tech d ≡ V → lit_of d ≡ true → devices.answer d f None ≡ t5_answer (tag_of d) f
    answers (T2 d) f e lit = absurd cc
    answers (T4 d) f e lit = absurd cc
    answers (T3 p) f e lit = absurd cc
    answers (Peer d) f e lit = absurd cc
    answers (T5 p) f e lit = ap (λ v. if v then t5_answer p.tag f else None) lit

    goes : (d : Device) (f : Signal) → devices.tech d ≡ V → lit_of d ≡ true
        → (lit_of (devices.after d f None) ≡ true) × (tag_of (devices.after d f None) ≡ t5_after (tag_of d) f)
    goes (T2 d) f e lit = absurd cc
    goes (T4 d) f e lit = absurd cc
    goes (T3 p) f e lit = absurd cc
    goes (Peer d) f e lit = absurd cc
    goes (T5 p) f e lit =
        let G : Bool → Type 0 = λ v.
        (lit_of (T5 (if v then record { tag = t5_after p.tag f; lit = true } else p)) ≡ true)
        × (tag_of (T5 (if v then record { tag = t5_after p.tag f; lit = true } else p)) ≡ t5_after p.tag f) in
        subst G (sym lit) (refl, refl)

    woken_tech : (d : Device) → devices.tech (devices.woken (devices.darkened d)) ≡ devices.tech d
    woken_tech (T2 d) = refl
    woken_tech (T4 d) = refl
    woken_tech (Peer d) = refl
    woken_tech (T5 p) = refl
    woken_tech (T3 p) = refl

    after_tech : (d : Device) (f : Signal) → devices.tech d ≡ V → devices.tech (devices.after d f None) ≡ V
    after_tech (T2 d) f e = absurd cc
    after_tech (T4 d) f e = absurd cc
    after_tech (T3 p) f e = absurd cc
    after_tech (Peer d) f e = absurd cc
    after_tech (T5 p) f e = by_light p.lit
      where
        by_light : (v : Bool) → devices.tech (T5 (if v then record { tag = t5_after p.tag f; lit = true } else p)) ≡ V
        by_light true = refl
        by_light false = refl

-- their identifiers
pub ids_same : (ds : List Device) → tag_ids devices tag_of ds ≡ filter_map v_if ds
ids_same [] = refl
ids_same (T2 d ∷ ds) = ids_same ds
ids_same (T4 d ∷ ds) = ids_same ds
ids_same (T3 p ∷ ds) = ids_same ds
ids_same (Peer d ∷ ds) = ids_same ds
ids_same (T5 p ∷ ds) = ap (λ is. p.tag.id ∷ is) (ids_same ds)

pub ids_whole : (ds : List Device) → AreSound (map kept ds) → Each (λ i. length i ≡ id_size) (filter_map v_if ds)
ids_whole [] s = tt
ids_whole (T2 d ∷ ds) s = ids_whole ds s.2
ids_whole (T4 d ∷ ds) s = ids_whole ds s.2
ids_whole (T3 p ∷ ds) s = ids_whole ds s.2
ids_whole (Peer d ∷ ds) s = ids_whole ds s.2
ids_whole (T5 p ∷ ds) s = (s.0.1, ids_whole ds s.2)

-- They are a crowd: few, each with an identifier of its own.
bytes_each : (xs : List ℕ) → ((i : ℕ) → slice_index xs i < 256) → Each (λ b. b < 256) xs
bytes_each [] h = tt
bytes_each (b ∷ bs) h = (h 0, bytes_each bs (λ i. h (suc i)))

ids_bytes : (ds : List Device) → AreSound (map kept ds) → Each (λ i. Each (λ b. b < 256) i) (filter_map v_if ds)
ids_bytes [] s = tt
ids_bytes (T2 d ∷ ds) s = ids_bytes ds s.2
ids_bytes (T4 d ∷ ds) s = ids_bytes ds s.2
ids_bytes (T3 p ∷ ds) s = ids_bytes ds s.2
ids_bytes (Peer d ∷ ds) s = ids_bytes ds s.2
ids_bytes (T5 p ∷ ds) s = (bytes_each p.tag.id s.0.2, ids_bytes ds s.2)

others_apart : (k : Kept) (ds : List Device) → AllByRecursion (IsApart k) (map kept ds) → Each (λ j. j ≡ k.fixed.id → ⊥) (filter_map v_if ds)
others_apart k [] a = tt
others_apart k (T2 d ∷ ds) a = others_apart k ds a.1
others_apart k (T4 d ∷ ds) a = others_apart k ds a.1
others_apart k (T3 p ∷ ds) a = others_apart k ds a.1
others_apart k (Peer d ∷ ds) a = others_apart k ds a.1
others_apart k (T5 p ∷ ds) a = (a.0, others_apart k ds a.1)

ids_own : (ds : List Device) → AreSound (map kept ds) → AreOwn (filter_map v_if ds)
ids_own [] s = tt
ids_own (T2 d ∷ ds) s = ids_own ds s.2
ids_own (T4 d ∷ ds) s = ids_own ds s.2
ids_own (T3 p ∷ ds) s = ids_own ds s.2
ids_own (Peer d ∷ ds) s = ids_own ds s.2
ids_own (T5 p ∷ ds) s = (others_apart (kept (T5 p)) ds s.1, ids_own ds s.2)

few_more : (m n : ℕ) → m ≤ n → m ≤ suc n
few_more m n h = omega (arith, h)

ids_few : (ds : List Device) → length (filter_map v_if ds) ≤ length (map kept ds)
ids_few [] = omega arith
ids_few (T2 d ∷ ds) = few_more (length (filter_map v_if ds)) (length (map kept ds)) (ids_few ds)
ids_few (T4 d ∷ ds) = few_more (length (filter_map v_if ds)) (length (map kept ds)) (ids_few ds)
ids_few (T3 p ∷ ds) = few_more (length (filter_map v_if ds)) (length (map kept ds)) (ids_few ds)
ids_few (Peer d ∷ ds) = few_more (length (filter_map v_if ds)) (length (map kept ds)) (ids_few ds)
ids_few (T5 p ∷ ds) = omega (arith, ids_few ds)

pub are_crowd : (ds : List Device) → AreTame (map kept ds) → AreCrowd (filter_map v_if ds)
are_crowd ds tame = record {
  few = omega (arith, ids_few ds, tame.few);
  long = ids_whole ds tame.sound;
  bytes = ids_bytes ds tame.sound;
  own = ids_own ds tame.sound;
}
