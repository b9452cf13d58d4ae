-- Selecting a Type 5 tag: a reset, and inventories of its identifier, which it alone answers.
use Rattle.std.proofs.Common.{◌≡◌, ◌⊎◌, inl, inr, ℕ, zero, suc, ◌+◌, ◌<◌, ◌≤◌, nat_lt, nat_eq, List, [], ◌∷◌, ◌++◌, map, length, drop, filter_map, Bool, true, false, if◌then◌else◌, Option, Some, None}
use Rattle.std.proofs.Common.{IsSome, Result, Ok, Err, refl, sym, ◌∙◌, ap, subst, append_assoc, arith}
use Rattle.std.specs.List.{AllByRecursion, cons_option}
use Rattle.std.specs.Cmp.Lexicographic.{pointwise}
use Rattle.nfca_poll.proofs.quiet.OneLevel.{pointwise_self}
use Rattle.std.specs.Result.{OnOk, is_err}
use Rattle.nfc_base.specs.declared.frame.Tech.TheVariants as techs
use Rattle.nfc_base.specs.declared.event.Event.{Event}
use Rattle.nfc_base.specs.declared.event.Event.TheVariants.{Reset, Request, Answer, Clash}
use Rattle.nfc_base.specs.declared.event.Heard.{Heard}
use Rattle.nfc_base.specs.declared.event.Heard.TheVariants.{Whole, Collided, Damaged, Silent}
use Rattle.nfc_base.specs.Signal.{Signal}
use Rattle.nfc_base.specs.Trace.{breaks, noise}
use Rattle.air_core.specs.Joint.{Joint, Nothing, Single, Clashing, joint}
use Rattle.air_core.specs.Turn.{Air, world, moment, after_event}
use Rattle.air_core.specs.World.{World, answered_by, stepped_by, reset_by}
use Rattle.air_core.specs.Conversation.{Note, Lit, Got, Lost, Next, Over, LightUp, Asks, Moment, Going, EachDue, with_events, receptions, trace_of}
use Rattle.air_core.specs.PlainTags.{IsAside}
use Rattle.air_core.proofs.Turns.{going_start, going_reset, going_then}
use Rattle.nfca_poll.specs.declared.fault.PollFault.{PollFault}
use Rattle.nfca_poll.specs.declared.fault.PollFault.TheVariants as faults
use Rattle.nfca_poll.specs.Crowd.{Each}
use Rattle.nfca_poll.specs.Front.{Idle, is_ready, is_active}
use Rattle.nfca_poll.specs.Enquiry.{Enquiry, Progress, Reaches, Loses, progress, due_of, enquiring, or_memory, answer_of, Enquires, LosesByBreak}
use Rattle.nfca_poll.specs.Inventory.{Inventory, Tries, Told, tries, inventory_of, asks_for, is_present, pick_step, pick_ended, picking_v, IsSteady, NoneAnswers, MissesV}
use Rattle.nfca_poll.proofs.quiet.Crowding.{drop-front}
use Rattle.nfca_poll.proofs.quiet.Eaches.{said_none}
use Rattle.t5t_tag.specs.declared.answer.T5Answer.TheVariants.{Present}
use Rattle.t5t_tag.specs.Store.{IsT5Shape, darkened, T5State}
use Rattle.t5t_tag.specs.Spelling.{answer_frame}
use Rattle.t5t_tag.specs.Step.{T5Turn, sent}
use Rattle.t5t_tag.proofs.Inventories.{unpicked}
use Rattle.bench_script.specs.declared.command.DeviceId.TheVariants as ids
use Rattle.bench_devices.specs.declared.device.Device.{Device}
use Rattle.bench_devices.specs.declared.device.Device.TheVariants.{T2, T4, Peer, T5, T3}
use Rattle.bench_devices.specs.declared.polling.SeenKind.{SeenKind}
use Rattle.bench_devices.specs.declared.polling.SeenKind.TheVariants as seen
use Rattle.bench_devices.specs.Powered.{Powered}
use Rattle.bench_devices.specs.Device.{devices, device_id, device_selected, seen_of, may_be_found}
use Rattle.bench_devices.specs.Device.{air, seen_of}
use Rattle.bench_devices.specs.Placed.{device_with}
use Rattle.bench_devices.specs.Answering.{HasPollCause, MissedBy, IsAbsent, IsNamed}
use Rattle.bench_devices.specs.Noise.{noisy_tries}
use Rattle.bench_devices.specs.Choosing.{StandsAt}
use Rattle.bench_devices.specs.Keeping.{kept, IsSound, AreSound, AreTame, ghosts, NoStore}
use Rattle.bench_devices.specs.Phases.{IsUnasked, Asked, Selects, SelectsAt, SelectionCut}
use Rattle.bench_devices.specs.Polling as followed
use Rattle.bench_devices.specs.Polling.{follows, kind_by, selecting, asks}
use Rattle.bench_devices.proofs.kinds.Ours.{steady_at, stays_at_own, kept_unrounded, answers_own}
use Rattle.bench_devices.proofs.finding.Inventoried.{fewer, whole_silent, collided_silent, damaged_silent, is_whole, tries_ask, tries_light, all_of}
use Rattle.bench_devices.proofs.finding.Following.{HasEnded, Closes, seen_by, kind_told, kind_asks, seen_lost, asks_same, told_same}
use Rattle.air_core.proofs.Following.{light_is_no_request, over_is_no_request, over_is_no_light}
use Rattle.bench_devices.proofs.finding.Unmoved.{OnlyAsks, AllHeard, AllStay, all_stay, all_heard}
use Rattle.bench_devices.proofs.turns.NoisyTurns.{tries_same}
use Rattle.bench_devices.proofs.finding.SelectingAir.{events_are, loses, stays_lit}
use Rattle.air_core.proofs.LostField.{lit_by, HasLost, going_lit, going_lost}
use Rattle.bench_devices.proofs.turns.QuietPolling.{AsksQuietly, PollsQuietly, other_hands_none, quietly}
use Rattle.bench_devices.proofs.finding.SelectingKept.{IsHarmless, going_keeps}
use Rattle.bench_devices.proofs.finding.SelectingPlaces.{not_eight, some_named, same_device, sound_amid, sound_front, sound_back, others_before, others_behind}
use Rattle.t5t_tag.proofs.Bytes.{equal_bytes}

-- a device behind a reset
abbrev pub relit : Device → Device
relit l = devices.woken (devices.darkened l)

-- what is selected is a Type 5 tag
abbrev is_five : Unit {0} → SeenKind
is_five x = seen.T5

abbrev pub five : Result (Unit {0}) PollFault → Result SeenKind PollFault
five r = seen_by is_five r

abbrev pub ended_if : Bool → Option (Result (Unit {0}) PollFault)
ended_if v = if v then None else Some (Err faults.NotFound)

more_tries : (n : ℕ) (v w : Bool) → nat_lt n tries ≡ v → nat_lt (n + 1) tries ≡ w → HasEnded (ended_if v) → HasEnded (ended_if w)
more_tries n true w p q h = absurd h
more_tries n false false p q h = tt
more_tries n false true p q h = absurd (fewer n p q)

told_either : (v : Bool) → HasEnded (pick_ended (if v then Told (Ok tt) else Told (Err faults.BadAnswer)))
told_either true = tt
told_either false = tt

-- nobody answers, or one answer of the form that an inventory has
abbrev IsPresented : Joint → Type 0
IsPresented Nothing = Unit {0}
IsPresented (Single g) = is_present g ≡ true
IsPresented (Clashing g) = ⊥

-- how selecting by an inventory may end on the bench, and how it doesn't where nobody answers
abbrev pub MayCome : Result (Unit {0}) PollFault → Type 0
MayCome (Ok x) = Unit {0}
MayCome (Err faults.Nobody) = ⊥
MayCome (Err faults.Disturbed) = ⊥
MayCome (Err faults.FieldLost) = Unit {0}
MayCome (Err faults.Memory) = Unit {0}
MayCome (Err faults.NotFound) = Unit {0}
MayCome (Err faults.BadAnswer) = ⊥

abbrev IsVain : Result (Unit {0}) PollFault → Type 0
IsVain (Ok x) = ⊥
IsVain (Err e) = Unit {0}

may_tries : (v : Bool) → MayCome (or_memory (ended_if v))
may_tries true = tt
may_tries false = tt

vain_tries : (v : Bool) → IsVain (or_memory (ended_if v))
vain_tries true = tt
vain_tries false = tt

module _ (id : List ℕ) where
  abbrev inventory : Signal
  inventory = inventory_of id

  abbrev call : Enquiry (Inventory (Unit {0})) (Unit {0})
  call = picking_v id

  silent_tries : (v : Bool) → HasEnded (ended_if v) → (if v then Asks inventory else Over) ≡ Over
  silent_tries true h = absurd h
  silent_tries false h = refl

  v_silent : (s : Inventory (Unit {0})) → HasEnded (pick_ended s) → asks_for inventory s ≡ Over
  v_silent (Tries n d) h = silent_tries (nat_lt n tries) h
  v_silent (Told r) h = refl

  v_heard : (s : Inventory (Unit {0})) (g : Heard) → HasEnded (pick_ended s) → HasEnded (pick_ended (pick_step s g))
  v_heard (Tries n d) (Whole g) h = told_either (is_present g)
  v_heard (Tries n d) (Collided g) h = tt
  v_heard (Tries n d) Damaged h = tt
  v_heard (Tries n d) Silent h = more_tries n (nat_lt n tries) (nat_lt (n + 1) tries) refl refl h
  v_heard (Told r) g h = tt

  pub v_closes : Closes call
  v_closes = record { silent = v_silent; lit = λ s h. h; heard = v_heard }

  due_only : (p : Progress (Inventory (Unit {0}))) (f : Signal) → due_of call p ≡ Asks f → f ≡ inventory
  due_only (Reaches (Tries n d)) f e = tries_ask inventory f (nat_lt n tries) e
  due_only (Reaches (Told r)) f e = absurd (over_is_no_request f e)
  due_only Loses f e = absurd (over_is_no_request f e)

  never_lit : (p : Progress (Inventory (Unit {0}))) → due_of call p ≡ LightUp → ⊥
  never_lit (Reaches (Tries n d)) e = tries_light inventory (nat_lt n tries) e
  never_lit (Reaches (Told r)) e = over_is_no_light e
  never_lit Loses e = over_is_no_light e

  only_due : (before es : List Event) → EachDue (enquiring call) before es → OnlyAsks inventory es
  only_due before [] q = tt
  only_due before (Reset ∷ es) q = absurd (never_lit (progress call (Tries 0 false) (receptions before)) q.0)
  only_due before (Request f x ∷ es) q = (due_only (progress call (Tries 0 false) (receptions before)) f q.0, only_due (before ++ Request f x ∷ []) es q.1)
  only_due before (Answer g x ∷ es) q = only_due (before ++ Answer g x ∷ []) es q
  only_due before (Clash g x ∷ es) q = only_due (before ++ Clash g x ∷ []) es q

  -- nothing is handed over at it
  pub asks_quietly : AsksQuietly call
  asks_quietly ns f e = other_hands_none f (ap (λ (g : Signal). g.tech) (due_only (progress call (Tries 0 false) ns) f e))

  harmless : IsHarmless inventory
  harmless (T2 d) = refl
  harmless (T4 d) = refl
  harmless (T3 p) = refl
  harmless (Peer d) = refl
  harmless (T5 p) = ap kept (stays_at_own id p) ∙ kept_unrounded p

  abbrev next : List Note → Next
  next ns = asks (selecting (ids.V id) ns)

  pub next_inventory : (ns : List Note) (f : Signal) → next ns ≡ Asks f → f ≡ inventory
  next_inventory [] f e = absurd (light_is_no_request f e)
  next_inventory (Lit ∷ ns) f e =
      let same : asks (kind_by is_five (follows call ns)) ≡ enquiring call ns = kind_asks is_five (follows call ns) ∙ asks_same call v_closes ns in
      due_only (progress call (Tries 0 false) ns) f (sym same ∙ e)
  next_inventory (Got h ∷ ns) f e = absurd (over_is_no_request f e)
  next_inventory (Lost ∷ ns) f e = absurd (over_is_no_request f e)

  pub next_asked : (ns : List Note) (f : Signal) → next ns ≡ Asks f → IsHarmless f
  next_asked ns f e = subst IsHarmless (sym (next_inventory ns f e)) harmless

  told_may : (q : Result (Unit {0}) PollFault) (ns : List Note) → MayCome q → MayCome (answer_of call (progress call (Told q) ns))
  told_may q [] m = m
  told_may q (Lit ∷ ns) m = told_may q ns m
  told_may q (Got h ∷ ns) m = told_may q ns m
  told_may q (Lost ∷ ns) m = tt

  present_may : (v : Bool) (ns : List Note) → v ≡ true → MayCome (answer_of call (progress call (if v then Told (Ok tt) else Told (Err faults.BadAnswer)) ns))
  present_may true ns e = told_may (Ok tt) ns tt
  present_may false ns e = absurd cc

  -- selecting ends well, in vain, or by the loss of the field
  tries_may : (j : Joint) → IsPresented j → (ns : List Note) (n : ℕ) (d : Bool) → AllHeard j ns → MayCome (answer_of call (progress call (Tries n d) ns))
  tries_may j p [] n d h = may_tries (nat_lt n tries)
  tries_may j p (Lit ∷ ns) n d h = absurd h
  tries_may Nothing p (Got (Whole k) ∷ ns) n d h = absurd (whole_silent k h.0)
  tries_may (Single g) p (Got (Whole k) ∷ ns) n d h = present_may (is_present k) ns (ap is_present h.0 ∙ p)
  tries_may (Clashing g) p (Got (Whole k) ∷ ns) n d h = absurd p
  tries_may j p (Got (Collided k) ∷ ns) n d h = told_may (Ok tt) ns tt
  tries_may j p (Got Damaged ∷ ns) n d h = told_may (Ok tt) ns tt
  tries_may j p (Got Silent ∷ ns) n d h = tries_may j p ns (n + 1) d h.1
  tries_may j p (Lost ∷ ns) n d h = tt

  -- where nobody answers it doesn't end well
  tries_vain : (ns : List Note) (n : ℕ) (d : Bool) → AllHeard Nothing ns → IsVain (answer_of call (progress call (Tries n d) ns))
  tries_vain [] n d h = vain_tries (nat_lt n tries)
  tries_vain (Lit ∷ ns) n d h = absurd h
  tries_vain (Got (Whole k) ∷ ns) n d h = absurd (whole_silent k h.0)
  tries_vain (Got (Collided k) ∷ ns) n d h = absurd (collided_silent k h.0)
  tries_vain (Got Damaged ∷ ns) n d h = absurd (damaged_silent h.0)
  tries_vain (Got Silent ∷ ns) n d h = tries_vain ns (n + 1) d h.1
  tries_vain (Lost ∷ ns) n d h = tt

-- Either there is no Type 5 tag of an identifier, or one of the devices is it.
record FiveAmid (id : List ℕ) (ds : List Device) : Type 0 where
  pub before : List Device
  pub tag : Powered T5State
  pub behind : List Device
  pub split : ds ≡ before ++ T5 tag ∷ behind
  pub named : tag.tag.id ≡ id

five_later : (id : List ℕ) (d : Device) (ds : List Device) → (IsNamed (ids.V id) d → ⊥) → IsAbsent (ids.V id) ds ⊎ FiveAmid id ds → IsAbsent (ids.V id) (d ∷ ds) ⊎ FiveAmid id (d ∷ ds)
five_later id d ds other (inl none) = inl (other, none)
five_later id d ds other (inr r) = inr (record { before = d ∷ r.before; tag = r.tag; behind = r.behind; split = ap (λ xs. d ∷ xs) r.split; named = r.named })

none_or_five : (id : List ℕ) (ds : List Device) → IsAbsent (ids.V id) ds ⊎ FiveAmid id ds
none_or_five id [] = inl tt
none_or_five id (T2 d ∷ ds) = five_later id (T2 d) ds (λ e. absurd (let k : techs.A ≡ techs.V = e.0 in cc)) (none_or_five id ds)
none_or_five id (T4 d ∷ ds) = five_later id (T4 d) ds (λ e. absurd (let k : techs.A ≡ techs.V = e.0 in cc)) (none_or_five id ds)
none_or_five id (Peer d ∷ ds) = five_later id (Peer d) ds (λ e. absurd (let k : techs.A ≡ techs.V = e.0 in cc)) (none_or_five id ds)
none_or_five id (T3 p ∷ ds) = five_later id (T3 p) ds (λ e. absurd (let k : techs.F ≡ techs.V = e.0 in cc)) (none_or_five id ds)
none_or_five id (T5 p ∷ ds) = by_first (pointwise nat_eq p.tag.id id) refl (none_or_five id ds)
  where
    by_first : (v : Bool) → pointwise nat_eq p.tag.id id ≡ v → IsAbsent (ids.V id) ds ⊎ FiveAmid id ds → IsAbsent (ids.V id) (T5 p ∷ ds) ⊎ FiveAmid id (T5 p ∷ ds)
    by_first true h rest = inr (record { before = []; tag = p; behind = ds; split = refl; named = equal_bytes p.tag.id id h })
    by_first false h rest =
        five_later id (T5 p) ds
        (λ e. absurd (let same : pointwise nat_eq p.tag.id id ≡ true = ap (λ x. pointwise nat_eq x id) e.1 ∙ pointwise_self id in let other : pointwise nat_eq p.tag.id id ≡ false = h in cc))
        rest

-- What the devices answer behind a reset to an inventory of one identifier.
module _ (id : List ℕ) where
  abbrev says : Device → Option Signal
  says l = answered_by devices l (inventory_of id) None

  abbrev answers_in : List Device → List Signal
  answers_in ls = filter_map says ls

  -- a tag in the light that isn't quiet
  state_of : (p : Powered T5State) → IsSound (kept (T5 p)) → IsT5Shape (darkened p.tag)
  state_of p s = record { id = s.1; bytes = s.2; store = s.3 }

  other_silent : (l : Device) → IsSound (kept l) → (IsNamed (ids.V id) l → ⊥) → says (relit l) ≡ None
  other_silent (T2 d) s o = refl
  other_silent (T4 d) s o = refl
  other_silent (Peer d) s o = refl
  other_silent (T3 p) s o = refl
  other_silent (T5 p) s o = ap (λ (x : T5Turn). sent x.answer) (unpicked (darkened p.tag) (state_of p s) id (λ e. o (refl, sym e)))

  others_silent : (ls : List Device) → AreSound (map kept ls) → IsAbsent (ids.V id) ls → Each (λ l. says l ≡ None) (map relit ls)
  others_silent [] s o = tt
  others_silent (l ∷ ls) s o = (other_silent l s.0 o.0, others_silent ls s.2 o.1)

  -- devices of other identifiers
  absent_of : (ls : List Device) → AllByRecursion (λ l. id ≡ device_id l → ⊥) ls → IsAbsent (ids.V id) ls
  absent_of [] o = tt
  absent_of (l ∷ ls) o = ((λ e. o.0 (sym e.1)), absent_of ls o.1)

  own_answer : (p : Powered T5State) → IsSound (kept (T5 p)) → p.tag.id ≡ id → says (relit (T5 p)) ≡ Some (answer_frame (Present p.tag.id))
  own_answer p s named = ap (λ i. answered_by devices (relit (T5 p)) (inventory_of i) None) (sym named) ∙ answers_own (darkened p.tag) (state_of p s) refl

  one_answer : (before : List Device) (d : Device) (behind : List Device) (g : Signal) → Each (λ l. says l ≡ None) (map relit before) → says (relit d) ≡ Some g
      → Each (λ l. says l ≡ None) (map relit behind)
      → answers_in (map relit (before ++ d ∷ behind)) ≡ g ∷ []
  one_answer [] d behind g h k j = ap (λ o. cons_option o (answers_in (map relit behind))) k ∙ ap (λ gs. g ∷ gs) (said_none says (map relit behind) j)
  one_answer (l ∷ ls) d behind g h k j = ap (λ o. cons_option o (answers_in (map relit (ls ++ d ∷ behind)))) h.0 ∙ one_answer ls d behind g h.1 k j

  -- one tag answers, and its answer is one to an inventory
  pub record Answered (ls : List Device) : Type 0 where
    pub answer : Signal
    pub one : answers_in (map relit ls) ≡ answer ∷ []
    pub present : is_present answer ≡ true

  amid_answers : (ls : List Device) → AreSound (map kept ls) → FiveAmid id ls → Answered ls
  amid_answers ls s a =
      let p : Powered T5State = a.tag in
      let sound : AreSound (map kept (a.before ++ T5 p ∷ a.behind)) = subst (λ ds. AreSound (map kept ds)) a.split s in
      let own : IsSound (kept (T5 p)) = sound_amid a.before (T5 p) a.behind sound in
      let O : List Device → Type 0 = λ ds. AllByRecursion (λ l. id ≡ device_id l → ⊥) ds in
      let first : O a.before = subst (λ i. AllByRecursion (λ l. i ≡ device_id l → ⊥) a.before) a.named (others_before a.before (T5 p) a.behind sound) in
      let later : O a.behind = subst (λ i. AllByRecursion (λ l. i ≡ device_id l → ⊥) a.behind) a.named (others_behind a.before (T5 p) a.behind sound) in
      let around : AreSound (map kept (T5 p ∷ a.behind)) = sound_back a.before (T5 p ∷ a.behind) sound in
      record {
        answer = answer_frame (Present p.tag.id);
        one = ap (λ ds. answers_in (map relit ds)) a.split
            ∙ one_answer a.before (T5 p) a.behind (answer_frame (Present p.tag.id)) (others_silent a.before (sound_front a.before (T5 p ∷ a.behind) sound) (absent_of a.before first))
            (own_answer p own a.named)
            (others_silent a.behind around.2 (absent_of a.behind later));
        present = is_whole p.tag.id own.1;
      }

  none_answers : (ls : List Device) → AreSound (map kept ls) → IsAbsent (ids.V id) ls → answers_in (map relit ls) ≡ []
  none_answers ls s none = said_none says (map relit ls) (others_silent ls s none)

  presented : (ls : List Device) → AreSound (map kept ls) → IsPresented (joint (answers_in (map relit ls)))
  presented ls s = by_one (none_or_five id ls)
    where
      by_one : IsAbsent (ids.V id) ls ⊎ FiveAmid id ls → IsPresented (joint (answers_in (map relit ls)))
      by_one (inl none) = subst (λ gs. IsPresented (joint gs)) (sym (none_answers ls s none)) tt
      by_one (inr a) = let r : Answered ls = amid_answers ls s a in subst (λ gs. IsPresented (joint gs)) (sym r.one) r.present

  no_answers : (g : Signal) → g ∷ [] ≡ [] → ⊥
  no_answers g e = cc

  -- where nobody answers, no Type 5 tag of this identifier is there
  silence_tells : (ls : List Device) → AreSound (map kept ls) → NoneAnswers devices (inventory_of id) (map relit ls) → IsAbsent (ids.V id) ls
  silence_tells ls s n = by_one (none_or_five id ls)
    where
      by_one : IsAbsent (ids.V id) ls ⊎ FiveAmid id ls → IsAbsent (ids.V id) ls
      by_one (inl none) = none
      by_one (inr a) = let r : Answered ls = amid_answers ls s a in absurd (no_answers r.answer (sym r.one ∙ said_none says (map relit ls) n))

-- a device of either kind stays as a reset left it at an inventory
stays_at : (id : List ℕ) (d : Device) → stepped_by devices (relit d) (inventory_of id) None ≡ relit d
stays_at id (T2 d) = refl
stays_at id (T4 d) = refl
stays_at id (T3 p) = refl
stays_at id (Peer d) = refl
stays_at id (T5 p) = stays_at_own id (record { tag = darkened p.tag; lit = true })

stay_all : (id : List ℕ) (ds : List Device) → AllStay (inventory_of id) (map relit ds)
stay_all id [] = tt
stay_all id (d ∷ ds) = (stays_at id d, stay_all id ds)

-- a device as a reset leaves it
abbrev pub IsRelit : Device → Type 0
IsRelit (T2 d) = d.front ≡ Idle
IsRelit (T4 d) = d.front ≡ Idle
IsRelit (Peer d) = d.front ≡ Idle
IsRelit (T5 p) = p.lit ≡ true
IsRelit (T3 p) = p.lit ≡ true

pub are_relit : (ls : List Device) → AllByRecursion IsRelit (map relit ls)
are_relit [] = tt
are_relit (T2 d ∷ ls) = (refl, are_relit ls)
are_relit (T4 d ∷ ls) = (refl, are_relit ls)
are_relit (Peer d ∷ ls) = (refl, are_relit ls)
are_relit (T5 p ∷ ls) = (refl, are_relit ls)
are_relit (T3 p ∷ ls) = (refl, are_relit ls)

pub relit_front : (before behind : List Device) → AllByRecursion IsRelit (before ++ behind) → AllByRecursion IsRelit before
relit_front [] behind h = tt
relit_front (l ∷ ls) behind h = (h.0, relit_front ls behind h.1)

pub relit_back : (before behind : List Device) → AllByRecursion IsRelit (before ++ behind) → AllByRecursion IsRelit behind
relit_back [] behind h = h
relit_back (l ∷ ls) behind h = relit_back ls behind h.1

pub relit_aside : (id : List ℕ) (ls : List Device) → AllByRecursion IsRelit ls → AllByRecursion (λ l. id ≡ device_id l → ⊥) ls → AllByRecursion (IsAside ghosts id) ls
relit_aside id [] h o = tt
relit_aside id (T2 d ∷ ls) h o = (record { rests = λ t. (ap is_ready h.0, ap is_active h.0); other = o.0 }, relit_aside id ls h.1 o.1)
relit_aside id (T4 d ∷ ls) h o = (record { rests = λ t. (ap is_ready h.0, ap is_active h.0); other = o.0 }, relit_aside id ls h.1 o.1)
relit_aside id (Peer d ∷ ls) h o = (record { rests = λ t. (ap is_ready h.0, ap is_active h.0); other = o.0 }, relit_aside id ls h.1 o.1)
relit_aside id (T5 p ∷ ls) h o = (record { rests = λ t. absurd cc; other = o.0 }, relit_aside id ls h.1 o.1)
relit_aside id (T3 p ∷ ls) h o = (record { rests = λ t. absurd cc; other = o.0 }, relit_aside id ls h.1 o.1)

pub relit_among : (before : List Device) (d : Device) (behind : List Device) → map relit (before ++ d ∷ behind) ≡ map relit before ++ relit d ∷ map relit behind
relit_among [] d behind = refl
relit_among (l ∷ ls) d behind = ap (λ xs. relit l ∷ xs) (relit_among ls d behind)

-- the reset of a field is one of the air
pub reset_done : {T E : Type 0} (old new : Air Device) (r : Result T E) → OnOk r (new ≡ after_event old Reset old.fates (reset_by devices (world old))) → is_err r ≡ false
    → moment new ≡ with_events air (moment old) (Reset ∷ [])
reset_done old new (Ok x) h e = ap moment h
reset_done old new (Err x) h e = absurd cc

-- a field of which nothing was asked
pub uncut : (id : List ℕ) (old new : Air Device) → new ≡ old → SelectionCut (ids.V id) (moment old) (moment new)
uncut id old new same =
    let P : Air Device → Type 0 = λ a. SelectionCut (ids.V id) (moment old) (moment a) in
    subst P (sym same) (record { notes = []; going = going_start air (next id) (moment old); same = refl })

pub quiet : (id : List ℕ) (old new : Air Device) (r : Result (Unit {0}) PollFault) → Enquires (picking_v id) devices old r new → PollsQuietly (picking_v id) old r new
quiet id old new r turns = quietly (picking_v id) (asks_quietly id) old new r turns

module _ (id : List ℕ) (eight : length id ≡ 8) (old mid new : Air Device) (r : Result (Unit {0}) PollFault) (tame : AreTame (map kept old.listeners))
    (reset : moment mid ≡ with_events air (moment old) (Reset ∷ [])) (turns : PollsQuietly (picking_v id) mid r new) where
  abbrev notes : List Note
  notes = turns.notes

  abbrev later : List Event
  later = turns.going.events

  relit_at : mid.listeners ≡ map relit old.listeners
  relit_at = ap (λ (m : Moment (World Device)). m.world.listeners) reset

  mid_lit : mid.lit ≡ true
  mid_lit = ap (λ (m : Moment (World Device)). m.world.lit) reset

  abbrev begun : Going air (next id) (moment old) (moment mid) (Lit ∷ [])
  begun = going_reset air (next id) (moment old) (moment old) (moment mid) [] (going_start air (next id) (moment old)) refl reset

  abbrev whole : Going air (next id) (moment old) (moment new) (Lit ∷ notes)
  whole = going_then air (next id) (next id) (enquiring (picking_v id)) (moment old) (moment mid) (moment new) (Lit ∷ []) notes (λ ns n p d. p)
      (λ ns. kind_asks is_five (follows (picking_v id) ns) ∙ asks_same (picking_v id) (v_closes id) ns) begun turns.going

  later_is : drop (length mid.trace) new.trace ≡ later
  later_is = events_are air (moment mid) (moment new) later turns.going.moment

  whole_is : whole.events ≡ Reset ∷ later
  whole_is =
      let T : Moment (World Device) → List Event = λ m. m.trace in
      let all : new.trace ≡ old.trace ++ (Reset ∷ later) = ap T turns.going.moment ∙ ap (λ t. t ++ later) (ap T reset) ∙ append_assoc old.trace (Reset ∷ []) later in
      sym (events_are air (moment old) (moment new) whole.events whole.moment) ∙ ap (drop (length old.trace)) all ∙ drop-front old.trace (Reset ∷ later)

  told : (r ≡ Err faults.Memory → ⊥) → selecting (ids.V id) (Lit ∷ notes) ≡ followed.Told (five r) []
  told starved = ap (kind_by is_five) (told_same (picking_v id) (v_closes id) air (moment mid) (moment new) notes r turns.going turns.comes starved) ∙ kind_told is_five r []

  pub same_kept : map kept new.listeners ≡ map kept old.listeners
  same_kept = going_keeps (next id) (moment old) (moment new) (Lit ∷ notes) (next_asked id) whole

  abbrev asked : (r ≡ Err faults.Memory → ⊥) → Asked NoStore (next id) (moment old) (moment new)
  asked starved = record { notes = Lit ∷ notes; going = whole; over = ap asks (told starved); same = same_kept }

  -- however it ended, so much was asked
  pub cut : SelectionCut (ids.V id) (moment old) (moment new)
  cut = record { notes = Lit ∷ notes; going = whole; same = same_kept }

  only : OnlyAsks (inventory_of id) later
  only = only_due id [] later turns.going.each

  stay : AllStay (inventory_of id) (map relit old.listeners)
  stay = stay_all id old.listeners

  abbrev heard_joint : Joint
  heard_joint = joint (answers_in id (map relit old.listeners))

  heard : AllHeard heard_joint notes
  heard =
      let O : List Event → Type 0 = OnlyAsks (inventory_of id) in
      let made : later ≡ trace_of air (moment mid).world turns.going.turns.moves = turns.going.turns.made in
      subst (AllHeard heard_joint) (ap receptions (sym made) ∙ turns.going.known)
      (all_heard (inventory_of id) (map relit old.listeners) stay turns.going.turns.moves (moment mid).world relit_at (subst O made only))

  may : MayCome r
  may = subst MayCome (sym turns.comes) (tries_may id heard_joint (presented id old.listeners tame.sound) notes 0 false heard)

  module _ (lost : LosesByBreak mid r new) (misses : Each (IsSteady devices (inventory_of id)) mid.listeners → MissesV devices id mid r new) where
    dark_lit : mid.lit ≡ false → ⊥
    dark_lit d = let l : mid.lit ≡ true = mid_lit in cc

    lost_there : (mid.lit ≡ false) ⊎ (0 < breaks (drop (length mid.trace) new.trace)) → 0 < breaks whole.events
    lost_there (inl d) = absurd (dark_lit d)
    lost_there (inr h) = subst (λ es. 0 < breaks es) (sym whole_is) (subst (λ es. 0 < breaks es) later_is h)

    broken : 0 < breaks later → r ≡ Err faults.FieldLost
    broken h =
        let gone : HasLost notes = going_lost devices (enquiring (picking_v id)) (moment mid) (moment new) notes turns.going h in
        turns.comes ∙ ap (answer_of (picking_v id)) (loses (picking_v id) (Tries 0 false) notes gone)

    lost_back : 0 < breaks whole.events → r ≡ Err faults.FieldLost
    lost_back h = broken (subst (λ es. 0 < breaks es) whole_is h)

    missed_by : r ≡ Err faults.NotFound → MissedBy (ids.V id) old.listeners whole.events
    missed_by e = by_miss ((misses (all_of (IsSteady devices (inventory_of id)) (steady_at id) mid.listeners)).not_found e)
      where
        by_miss : NoneAnswers devices (inventory_of id) mid.listeners ⊎ (tries ≤ noise (drop (length mid.trace) new.trace)) → MissedBy (ids.V id) old.listeners whole.events
        by_miss (inl n) = inl (silence_tells id old.listeners tame.sound (subst (NoneAnswers devices (inventory_of id)) relit_at n))
        by_miss (inr n) =
            let L : List Event → Type 0 = λ es. tries ≤ noise es in
            let same : noise later ≡ noisy_tries (inventory_of id) later = tries_same air (moment mid).world (inventory_of id) later refl turns.going.turns only in
            inr (subst (λ es. tries ≤ noisy_tries (inventory_of id) es) (sym whole_is) (subst (λ k. tries ≤ k) same (subst L later_is n)))

    cause : (q : Result (Unit {0}) PollFault) → r ≡ q → MayCome q → (q ≡ Err faults.Memory → ⊥) → HasPollCause (ids.V id) old.listeners (five q) whole.events
    cause (Ok x) e m n = tt
    cause (Err faults.Nobody) e m n = m
    cause (Err faults.Disturbed) e m n = m
    cause (Err faults.FieldLost) e m n = tt
    cause (Err faults.Memory) e m n = absurd (n refl)
    cause (Err faults.NotFound) e m n = missed_by e
    cause (Err faults.BadAnswer) e m n = m

    pub selects : (r ≡ Err faults.Memory → ⊥) → Selects (ids.V id) (five r) (moment old) (moment new)
    selects starved = record {
      asked = asked starved;
      told = told starved;
      cause = cause r refl may starved;
      lost = ((λ e. lost_there (lost (seen_lost is_five r e))), (λ h. ap five (lost_back h)));
    }

    module _ (well : r ≡ Ok tt) where
      not_lost : r ≡ Err faults.FieldLost → ⊥
      not_lost e = let k : r ≡ Ok tt = well in cc

      not_starving : r ≡ Err faults.Memory → ⊥
      not_starving e = let k : r ≡ Ok tt = well in cc

      unbroken : breaks later ≡ 0
      unbroken = by_count (breaks later) refl
        where
          by_count : (n : ℕ) → breaks later ≡ n → breaks later ≡ 0
          by_count zero e = e
          by_count (suc n) e = absurd (not_lost (broken (omega (arith, e))))

      listeners_are : new.listeners ≡ map relit old.listeners
      listeners_are =
          ap (λ (m : Moment (World Device)). m.world.listeners) turns.going.moment
          ∙ all_stay (inventory_of id) later (moment mid).world only (subst (AllStay (inventory_of id)) (sym relit_at) stay) unbroken ∙ relit_at

      there : FiveAmid id old.listeners
      there = by_one (none_or_five id old.listeners)
        where
          by_one : IsAbsent (ids.V id) old.listeners ⊎ FiveAmid id old.listeners → FiveAmid id old.listeners
          by_one (inr a) = a
          by_one (inl none) =
              let silent : AllHeard Nothing notes = subst (λ gs. AllHeard (joint gs) notes) (none_answers id old.listeners tame.sound none) heard in
              absurd (subst IsVain (sym turns.comes ∙ well) (tries_vain id notes 0 false silent))

      abbrev tag_there : Device
      tag_there = relit (T5 there.tag)

      split_there : new.listeners ≡ map relit there.before ++ tag_there ∷ map relit there.behind
      split_there = listeners_are ∙ ap (map relit) there.split ∙ relit_among there.before (T5 there.tag) there.behind

      -- there is a device of this identifier
      pub placed : IsSome (device_with id new.listeners)
      placed = subst (λ ls. IsSome (device_with id ls)) (sym split_there) (some_named id (map relit there.before) tag_there (map relit there.behind) there.named)

      no_loss : (p : Progress (Inventory (Unit {0}))) → Ok tt ≡ answer_of (picking_v id) p → ◌≡◌ {A = Progress (Inventory (Unit {0}))} Loses p → ⊥
      no_loss p e h = let k : Ok tt ≡ Err faults.FieldLost = e ∙ ap (answer_of (picking_v id)) (sym h) in cc

      lit_at_end : lit_by true notes ≡ true
      lit_at_end = by_progress (progress (picking_v id) (Tries 0 false) notes) refl (sym well ∙ turns.comes)
        where
          by_progress : (p : Progress (Inventory (Unit {0}))) → progress (picking_v id) (Tries 0 false) notes ≡ p → Ok tt ≡ answer_of (picking_v id) (progress (picking_v id) (Tries 0 false) notes)
              → lit_by true notes ≡ true
          by_progress (Reaches s) h e = stays_lit (picking_v id) (Tries 0 false) s notes h
          by_progress Loses h e = absurd (no_loss (progress (picking_v id) (Tries 0 false) notes) e (sym h))

      world_lit : new.lit ≡ true
      world_lit = going_lit devices (enquiring (picking_v id)) (moment mid) (moment new) notes turns.going ∙ ap (λ v. lit_by v notes) mid_lit ∙ lit_at_end

      relit_all : AllByRecursion IsRelit new.listeners
      relit_all = subst (AllByRecursion IsRelit) (sym listeners_are) (are_relit old.listeners)

      sound : AreSound (map kept new.listeners)
      sound = subst AreSound (sym same_kept) tame.sound

      selected_if : (d : Device) → IsRelit d → IsSound (kept d) → device_id d ≡ id → device_selected d ≡ true
      selected_if (T2 d) h s named = absurd (not_eight (length d.id) s.0.size (ap length named ∙ eight))
      selected_if (T4 d) h s named = absurd (not_eight (length d.id) s.0.size (ap length named ∙ eight))
      selected_if (Peer d) h s named = absurd (not_eight (length d.id) s.0.size (ap length named ∙ eight))
      selected_if (T5 p) h s named = h
      selected_if (T3 p) h s named = h

      -- what stands there is this tag
      abbrev IsFive : Device → Type 0
      IsFive d = (seen_of d ≡ seen.T5) × (may_be_found d ≡ true) × IsUnasked d

      five_if : (place : ℕ) (s : StandsAt id new.listeners place) → IsFive s.device
      five_if place s =
          let whole_sound : AreSound (map kept (s.before ++ s.device ∷ s.behind)) = subst (λ ls. AreSound (map kept ls)) s.split sound in
          let same : s.device ≡ tag_there =
          same_device s.before s.device s.behind (map relit there.before) tag_there (map relit there.behind) whole_sound (sym s.split ∙ split_there) (s.named ∙ sym there.named) in
          subst IsFive (sym same) (refl, refl, tt)

      -- it is selected, and stands at the place that was found
      pub selects_at : (place : ℕ) → StandsAt id new.listeners place → SelectsAt (ids.V id) place (moment old) (moment new)
      selects_at place s =
          let whole_sound : AreSound (map kept (s.before ++ s.device ∷ s.behind)) = subst (λ ls. AreSound (map kept ls)) s.split sound in
          let all : AllByRecursion IsRelit (s.before ++ s.device ∷ s.behind) = subst (AllByRecursion IsRelit) s.split relit_all in
          let own : IsSound (kept s.device) = sound_amid s.before s.device s.behind whole_sound in
          let is : IsFive s.device = five_if place s in
          let behind : AllByRecursion IsRelit (s.device ∷ s.behind) = relit_back s.before (s.device ∷ s.behind) all in
          record {
            selects = subst (λ k. Selects (ids.V id) (Ok k) (moment old) (moment new)) (sym is.0) (subst (λ q. Selects (ids.V id) (five q) (moment old) (moment new)) well (selects not_starving));
            device = s.device;
            named = s.named;
            found = is.1;
            stands = record {
              before = s.before;
              behind = s.behind;
              world = ap (λ v. record { lit = v; listeners = new.listeners }) world_lit ∙ ap (λ ls. record { lit = true; listeners = ls }) s.split;
              at = s.at;
              sound = own;
              selected = selected_if s.device behind.0 own s.named;
              unasked = is.2;
              first = relit_aside (device_id s.device) s.before (relit_front s.before (s.device ∷ s.behind) all) (others_before s.before s.device s.behind whole_sound);
              later = relit_aside (device_id s.device) s.behind behind.1 (others_behind s.before s.device s.behind whole_sound);
            };
          }
