-- What an inventory of all comes to among the bench's devices.
use Rattle.std.proofs.Common.{◌≡◌, ◌⊎◌, inl, inr, ◌+◌, ◌==◌, ◌&&◌, ℕ, nat_lt, nat_eq, List, [], ◌∷◌, ◌++◌, map, length, drop, reverse, filter_map, Bool, true, false, if◌then◌else◌, Option, Some, None}
use Rattle.std.proofs.Common.{Result, Ok, Err, refl, sym, ◌∙◌, ap, subst, arith}
use Rattle.std.proofs.lemmas.List.{length-reverse, reverse-reverse}
use Rattle.std.specs.Cmp.Lexicographic.{pointwise}
use Rattle.std.specs.List.{AllByRecursion, cons_option}
use Rattle.nfc_base.specs.declared.event.Event.{Event}
use Rattle.nfc_base.specs.declared.event.Event.TheVariants.{Reset, Request, Answer, Clash}
use Rattle.nfc_base.specs.declared.event.Heard.{Heard}
use Rattle.nfc_base.specs.declared.event.Heard.TheVariants.{Whole, Collided, Damaged, Silent}
use Rattle.nfc_base.specs.declared.frame.Tech.TheVariants.{V as NfcV}
use Rattle.nfc_base.specs.Signal.{Signal}
use Rattle.nfc_base.specs.Bits.{bits, of_bits}
use Rattle.air_core.specs.Joint.{Joint, Nothing, Single, Clashing, joint, all_same, same_signal, common_all}
use Rattle.air_core.specs.World.{World, answered_by, stepped_by}
use Rattle.air_core.specs.Conversation.{Note, Lit, Got, Lost, Over, LightUp, Asks, EachDue, Moment, Going, receptions, trace_of}
use Rattle.nfca_poll.specs.declared.fault.PollFault.{PollFault}
use Rattle.nfca_poll.specs.declared.fault.PollFault.TheVariants as faults
use Rattle.nfca_poll.specs.declared.inventory.Vcrowd.{Vcrowd}
use Rattle.nfca_poll.specs.declared.inventory.Vcrowd.TheVariants.{Nobody, One, Crowd}
use Rattle.nfca_poll.specs.Crowd.{Each}
use Rattle.nfca_poll.proofs.quiet.Eaches.{said_none}
use Rattle.nfca_poll.specs.Enquiry.{Progress, Reaches, Loses, progress, due_of, enquiring, or_memory, answer_of}
use Rattle.nfca_poll.specs.Inventory.{Inventory, Tries, Told, tries, inventory, inventory_all, asks_for, is_present, answered_id, one_step, one_ended}
use Rattle.t5t_tag.specs.declared.answer.T5Answer.TheVariants.{Present}
use Rattle.t5t_tag.specs.Spelling.{answer_frame}
use Rattle.t5t_tag.specs.Step.{T5Turn, sent, t5_answer}
use Rattle.t5t_tag.proofs.Bytes.{equal_bytes}
use Rattle.t5t_tag.proofs.Inventories.{counted}
use Rattle.bench_devices.specs.declared.device.Device.{Device}
use Rattle.bench_devices.specs.declared.device.Device.TheVariants.{T2, T4, Peer, T5, T3}
use Rattle.bench_devices.specs.Powered.{Powered}
use Rattle.bench_devices.specs.Device.{devices}
use Rattle.bench_devices.specs.Crowded.{v_if, inventory_of}
use Rattle.bench_devices.specs.Device.{air}
use Rattle.bench_devices.specs.Keeping.{Kept, kept, IsApart, AreSound}
use Rattle.bench_devices.proofs.kinds.Ours.{stays_at_all, kept_unrounded, unrounded_same}
use Rattle.bench_devices.proofs.finding.Following.{HasEnded, Closes}
use Rattle.air_core.proofs.Following.{same_asked, light_is_no_request, over_is_no_request, over_is_no_light}
use Rattle.bench_devices.proofs.finding.Unmoved.{OnlyAsks, AllHeard, all_heard}
use Rattle.bench_devices.proofs.finding.SelectingKept.{IsHarmless}
use Rattle.t5t_tag.specs.Store.{T5State}

-- A Type 5 tag in the light that isn't quiet, and in no round. A tag of NFC-A hears no inventory.
abbrev pub IsAwake : Device → Type 0
IsAwake (T2 d) = Unit {0}
IsAwake (T4 d) = Unit {0}
IsAwake (T3 p) = Unit {0}
IsAwake (Peer d) = Unit {0}
IsAwake (T5 p) = (p.lit ≡ true) × (p.tag.quiet ≡ false) × (p.tag.round ≡ None)

abbrev pub says : Device → Option Signal
says d = answered_by devices d inventory_all None

abbrev present : List ℕ → Signal
present id = answer_frame (Present id)

tag_says : (p : Powered T5State) → IsAwake (T5 p) → says (T5 p) ≡ Some (present p.tag.id)
tag_says p h = ap (λ v. if v then t5_answer p.tag inventory_all else None) h.0 ∙ ap (λ (r : T5Turn). sent r.answer) (counted p.tag h.1)

-- each of them answers
all_answer : (ds : List Device) → AllByRecursion IsAwake ds → filter_map says ds ≡ map present (filter_map v_if ds)
all_answer [] h = refl
all_answer (T2 d ∷ ds) h = all_answer ds h.1
all_answer (T4 d ∷ ds) h = all_answer ds h.1
all_answer (T3 p ∷ ds) h = all_answer ds h.1
all_answer (Peer d ∷ ds) h = all_answer ds h.1
all_answer (T5 p ∷ ds) h = ap (λ o. cons_option o (filter_map says ds)) (tag_says p h.0) ∙ ap (λ gs. present p.tag.id ∷ gs) (all_answer ds h.1)

no_ids : (ids : List (List ℕ)) → map present ids ≡ [] → inventory_of ids ≡ Nobody
no_ids [] e = refl
no_ids (i ∷ is) e = absurd cc

-- where nobody answers, there is no Type 5 tag
pub none_told : (ds : List Device) → AllByRecursion IsAwake ds → Each (λ d. says d ≡ None) ds → inventory_of (filter_map v_if ds) ≡ Nobody
none_told ds awake n = no_ids (filter_map v_if ds) (sym (all_answer ds awake) ∙ said_none says ds n)

-- identifiers of eight bytes, no two the same
abbrev pub AreOwn : List (List ℕ) → Type 0
AreOwn [] = Unit {0}
AreOwn (i ∷ is) = (length i ≡ 8) × AllByRecursion (λ j. j ≡ i → ⊥) is × AreOwn is

others_apart : (k : Kept) (ds : List Device) → AllByRecursion (IsApart k) (map kept ds) → AllByRecursion (λ j. j ≡ k.fixed.id → ⊥) (filter_map v_if ds)
others_apart k [] a = tt
others_apart k (T2 d ∷ ds) a = others_apart k ds a.1
others_apart k (T4 d ∷ ds) a = others_apart k ds a.1
others_apart k (T3 p ∷ ds) a = others_apart k ds a.1
others_apart k (Peer d ∷ ds) a = others_apart k ds a.1
others_apart k (T5 p ∷ ds) a = (a.0, others_apart k ds a.1)

own_ids : (ds : List Device) → AreSound (map kept ds) → AreOwn (filter_map v_if ds)
own_ids [] s = tt
own_ids (T2 d ∷ ds) s = own_ids ds s.2
own_ids (T4 d ∷ ds) s = own_ids ds s.2
own_ids (T3 p ∷ ds) s = own_ids ds s.2
own_ids (Peer d ∷ ds) s = own_ids ds s.2
own_ids (T5 p ∷ ds) s = (s.0.1, others_apart (kept (T5 p)) ds s.1, own_ids ds s.2)

pub is_whole : (i : List ℕ) → length i ≡ 8 → is_present (present i) ≡ true
is_whole i e = ap (λ n. (n == 10) && (0 == 0)) (ten (length-reverse i ∙ e))
  where
    ten : length (reverse i) ≡ 8 → length (present i).bytes ≡ 10
    ten k = omega (arith, k)

-- answers of two identifiers differ
same_bytes : (i j : List ℕ) → pointwise nat_eq (present i).bytes (present j).bytes ≡ true → j ≡ i
same_bytes i j h =
    let same : reverse i ≡ reverse j = ap (drop 2) (equal_bytes (present i).bytes (present j).bytes h) in
    sym (reverse-reverse j) ∙ ap reverse (sym same) ∙ reverse-reverse i

differ : (i j : List ℕ) → (j ≡ i → ⊥) → same_signal (present i) (present j) ≡ false
differ i j other = by_bytes (pointwise nat_eq (present i).bytes (present j).bytes) refl
  where
    by_bytes : (v : Bool) → pointwise nat_eq (present i).bytes (present j).bytes ≡ v → (true && (0 == 0)) && v ≡ false
    by_bytes true h = absurd (other (same_bytes i j h))
    by_bytes false h = refl

-- what is told of a joint answer that is heard
abbrev Tells : Joint → Vcrowd → Type 0
Tells Nothing v = v ≡ Nobody
Tells (Single g) v = (is_present g ≡ true) × (One (answered_id g) ≡ v)
Tells (Clashing g) v = v ≡ Crowd

tells_of : (ids : List (List ℕ)) → AreOwn ids → Tells (joint (map present ids)) (inventory_of ids)
tells_of [] own = refl
tells_of (i ∷ []) own = (is_whole i own.0, ap One (reverse-reverse i))
tells_of (i ∷ j ∷ more) own =
    let clash : Signal = of_bits NfcV (common_all (bits (present i)) (map bits (map present (j ∷ more)))) in
    let apart : all_same (present i) (map present (j ∷ more)) ≡ false = ap (λ v. v && all_same (present i) (map present more)) (differ i j own.1.0) in
    subst (λ v. Tells (if v then Single (present i) else Clashing clash) Crowd) (sym apart) refl

-- how an inventory may end where this is to be told
abbrev pub Comes : Vcrowd → Result Vcrowd PollFault → Type 0
Comes v (Ok x) = (x ≡ v) ⊎ (x ≡ Nobody)
Comes v (Err faults.Nobody) = ⊥
Comes v (Err faults.Disturbed) = Unit {0}
Comes v (Err faults.FieldLost) = Unit {0}
Comes v (Err faults.Memory) = Unit {0}
Comes v (Err faults.NotFound) = ⊥
Comes v (Err faults.BadAnswer) = ⊥

pub whole_silent : (g : Signal) → Whole g ≡ Silent → ⊥
whole_silent g e = cc

pub collided_silent : (g : Signal) → Collided g ≡ Silent → ⊥
collided_silent g e = cc

pub damaged_silent : Damaged ≡ Silent → ⊥
damaged_silent e = cc

module _ (v : Vcrowd) where
  vain : (more d : Bool) → Comes v (or_memory (if more then None else Some (if d then Err faults.Disturbed else Ok Nobody)))
  vain true d = tt
  vain false true = tt
  vain false false = inr refl

  told_comes : (q : Result Vcrowd PollFault) (ns : List Note) → Comes v q → Comes v (answer_of inventory (progress inventory (Told q) ns))
  told_comes q [] m = m
  told_comes q (Lit ∷ ns) m = told_comes q ns m
  told_comes q (Got h ∷ ns) m = told_comes q ns m
  told_comes q (Lost ∷ ns) m = tt

  present_comes : (k : Signal) (w : Bool) (ns : List Note) → w ≡ true → One (answered_id k) ≡ v
      → Comes v (answer_of inventory (progress inventory (if w then Told (Ok (One (answered_id k))) else Told (Err faults.BadAnswer)) ns))
  present_comes k true ns e is = told_comes (Ok (One (answered_id k))) ns (inl is)
  present_comes k false ns e is = absurd cc

  tries_come : (j : Joint) → Tells j v → (ns : List Note) (n : ℕ) (d : Bool) → AllHeard j ns → Comes v (answer_of inventory (progress inventory (Tries n d) ns))
  tries_come j t [] n d h = vain (nat_lt n tries) d
  tries_come j t (Lit ∷ ns) n d h = absurd h
  tries_come Nothing t (Got (Whole k) ∷ ns) n d h = absurd (whole_silent k h.0)
  tries_come (Single g) t (Got (Whole k) ∷ ns) n d h = present_comes k (is_present k) ns (ap is_present h.0 ∙ t.0) (ap (λ f. One (answered_id f)) h.0 ∙ t.1)
  tries_come (Clashing g) t (Got (Whole k) ∷ ns) n d h = absurd h.0
  tries_come Nothing t (Got (Collided k) ∷ ns) n d h = absurd (collided_silent k h.0)
  tries_come (Single g) t (Got (Collided k) ∷ ns) n d h = absurd h.0
  tries_come (Clashing g) t (Got (Collided k) ∷ ns) n d h = told_comes (Ok Crowd) ns (inl (sym t))
  tries_come j t (Got Damaged ∷ ns) n d h = tries_come j t ns (n + 1) true h.1
  tries_come j t (Got Silent ∷ ns) n d h = tries_come j t ns (n + 1) d h.1
  tries_come j t (Lost ∷ ns) n d h = tt

-- An inventory asks the one request, and once it is over nothing.
abbrev ended_if : Bool → Bool → Option (Result Vcrowd PollFault)
ended_if more d = if more then None else Some (if d then Err faults.Disturbed else Ok Nobody)

pub fewer : (n : ℕ) → nat_lt n 4 ≡ false → nat_lt (n + 1) 4 ≡ true → ⊥
fewer n h k = grind arith

more_tries : (n : ℕ) (x y c d : Bool) → nat_lt n tries ≡ x → nat_lt (n + 1) tries ≡ y → HasEnded (ended_if x c) → HasEnded (ended_if y d)
more_tries n true y c d p q h = absurd h
more_tries n false false c d p q h = tt
more_tries n false true c d p q h = absurd (fewer n p q)

told_either : (v : Bool) (id : List ℕ) → HasEnded (one_ended (if v then Told (Ok (One id)) else Told (Err faults.BadAnswer)))
told_either true id = tt
told_either false id = tt

silent_tries : (v d : Bool) → HasEnded (ended_if v d) → (if v then Asks inventory_all else Over) ≡ Over
silent_tries true d h = absurd h
silent_tries false d h = refl

one_silent : (s : Inventory Vcrowd) → HasEnded (one_ended s) → asks_for inventory_all s ≡ Over
one_silent (Tries n d) h = silent_tries (nat_lt n tries) d h
one_silent (Told r) h = refl

one_heard : (s : Inventory Vcrowd) (g : Heard) → HasEnded (one_ended s) → HasEnded (one_ended (one_step s g))
one_heard (Tries n d) (Whole g) h = told_either (is_present g) (answered_id g)
one_heard (Tries n d) (Collided g) h = tt
one_heard (Tries n d) Damaged h = more_tries n (nat_lt n tries) (nat_lt (n + 1) tries) d true refl refl h
one_heard (Tries n d) Silent h = more_tries n (nat_lt n tries) (nat_lt (n + 1) tries) d d refl refl h
one_heard (Told r) g h = tt

pub inventory_closes : Closes inventory
inventory_closes = record { silent = one_silent; lit = λ s h. h; heard = one_heard }

pub tries_ask : (f g : Signal) (v : Bool) → (if v then Asks f else Over) ≡ Asks g → g ≡ f
tries_ask f g true e = sym (same_asked f g e)
tries_ask f g false e = absurd (over_is_no_request g e)

pub tries_light : (f : Signal) (v : Bool) → (if v then Asks f else Over) ≡ LightUp → ⊥
tries_light f true e = light_is_no_request f (sym e)
tries_light f false e = over_is_no_light e

due_only : (p : Progress (Inventory Vcrowd)) (f : Signal) → due_of inventory p ≡ Asks f → f ≡ inventory_all
due_only (Reaches (Tries n d)) f e = tries_ask inventory_all f (nat_lt n tries) e
due_only (Reaches (Told r)) f e = absurd (over_is_no_request f e)
due_only Loses f e = absurd (over_is_no_request f e)

never_lit : (p : Progress (Inventory Vcrowd)) → due_of inventory p ≡ LightUp → ⊥
never_lit (Reaches (Tries n d)) e = tries_light inventory_all (nat_lt n tries) e
never_lit (Reaches (Told r)) e = over_is_no_light e
never_lit Loses e = over_is_no_light e

pub only_due : (before es : List Event) → EachDue (enquiring inventory) before es → OnlyAsks inventory_all es
only_due before [] q = tt
only_due before (Reset ∷ es) q = absurd (never_lit (progress inventory (Tries 0 false) (receptions before)) q.0)
only_due before (Request f x ∷ es) q = (due_only (progress inventory (Tries 0 false) (receptions before)) f q.0, only_due (before ++ Request f x ∷ []) es q.1)
only_due before (Answer g x ∷ es) q = only_due (before ++ Answer g x ∷ []) es q
only_due before (Clash g x ∷ es) q = only_due (before ++ Clash g x ∷ []) es q

-- it is a request of NFC-V
pub inventory_other : (ns : List Note) (f : Signal) → enquiring inventory ns ≡ Asks f → f.tech ≡ NfcV
inventory_other ns f e = ap (λ (g : Signal). g.tech) (due_only (progress inventory (Tries 0 false) ns) f e)

harmless : IsHarmless inventory_all
harmless (T2 d) = refl
harmless (T4 d) = refl
harmless (T3 p) = refl
harmless (Peer d) = refl
harmless (T5 p) = ap kept (stays_at_all p) ∙ kept_unrounded p

pub inventory_harmless : (ns : List Note) (f : Signal) → enquiring inventory ns ≡ Asks f → IsHarmless f
inventory_harmless ns f e = subst IsHarmless (sym (due_only (progress inventory (Tries 0 false) ns) f e)) harmless

stays_at : (d : Device) → IsAwake d → stepped_by devices d inventory_all None ≡ d
stays_at (T2 d) h = refl
stays_at (T4 d) h = refl
stays_at (T3 p) h = refl
stays_at (Peer d) h = refl
stays_at (T5 p) h = stays_at_all p ∙ unrounded_same p h.2

stay_all : (ds : List Device) → AllByRecursion IsAwake ds → Each (λ d. stepped_by devices d inventory_all None ≡ d) ds
stay_all [] h = tt
stay_all (d ∷ ds) h = (stays_at d h.0, stay_all ds h.1)

pub all_of : (P : Device → Type 0) → ((d : Device) → P d) → (ds : List Device) → Each P ds
all_of P h [] = tt
all_of P h (d ∷ ds) = (h d, all_of P h ds)

-- Among devices that are awake an inventory tells of the Type 5 tags, or of nobody, or ends by a fault.
pub inventory_comes : (a b : Moment (World Device)) (ns : List Note) → Going air (enquiring inventory) a b ns → AllByRecursion IsAwake a.world.listeners → AreSound (map kept a.world.listeners)
    → Comes (inventory_of (filter_map v_if a.world.listeners)) (answer_of inventory (progress inventory (Tries 0 false) ns))
inventory_comes a b ns g awake sound =
    let ds : List Device = a.world.listeners in
    let made = g.turns.made in
    let heard : AllHeard (joint (filter_map says ds)) (receptions (trace_of air a.world g.turns.moves)) =
    all_heard inventory_all ds (stay_all ds awake) g.turns.moves a.world refl (subst (OnlyAsks inventory_all) made (only_due [] g.events g.each)) in
    let known : AllHeard (joint (filter_map says ds)) ns = subst (AllHeard (joint (filter_map says ds))) (ap receptions (sym made) ∙ g.known) heard in
    let tells : Tells (joint (filter_map says ds)) (inventory_of (filter_map v_if ds)) = subst (λ gs. Tells (joint gs) (inventory_of (filter_map v_if ds))) (sym (all_answer ds awake))
    (tells_of (filter_map v_if ds) (own_ids ds sound)) in
    tries_come (inventory_of (filter_map v_if ds)) (joint (filter_map says ds)) tells ns 0 false known
