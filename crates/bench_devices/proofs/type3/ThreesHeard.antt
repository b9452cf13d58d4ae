-- What is asked of a Type 3 tag is answered, and each answer is heard where all passes.
use Rattle.std.proofs.Common.{◌≡◌, ◌⊎◌, inl, inr, ℕ, zero, suc, ◌<◌, ◌≤◌, List, [], ◌∷◌, ◌++◌, length, map, Bool, true, false, not, nat_le, ◌==◌, ◌||◌, if◌then◌else◌, Option, Some, None, Ok, Err}
use Rattle.std.proofs.Common.{refl, sym, ◌∙◌, ap, subst, append_assoc, append-nil, arith}
use Rattle.std.specs.List.{AllByRecursion, cons_option}
use Rattle.nfc_base.specs.declared.frame.Tech.TheVariants.{F}
use Rattle.nfc_base.specs.declared.event.Event.{Event}
use Rattle.nfc_base.specs.declared.event.Event.TheVariants.{Reset, Request}
use Rattle.nfc_base.specs.declared.event.Fate.TheVariants.{Pass}
use Rattle.nfc_base.specs.declared.event.Heard.{Heard}
use Rattle.nfc_base.specs.declared.event.Heard.TheVariants.{Whole}
use Rattle.nfc_base.specs.Signal.{Signal}
use Rattle.nfc_base.specs.TagLinks.{MayAsk, Type3}
use Rattle.nfc_base.specs.Trace.{heard_by}
use Rattle.air_core.specs.Joint.{Joint, Nothing, Single, Clashing, joint, same_tech}
use Rattle.air_core.specs.World.{hears, answered_by, stepped_by}
use Rattle.air_core.specs.Conversation.{Note, Lit, Got, note, Next, Over, LightUp, Asks, Moment, TurnsTo, AreTurns, EachDue, FatesFrom, receptions, joint_events, joint_back, replay, turn_events}
use Rattle.air_core.specs.Conversation.{turn_heard, with_events}
use Rattle.air_core.specs.PlainTags.{IsAside, IsAlone}
use Rattle.air_core.specs.Waits.{stand, waits_next}
use Rattle.air_core.proofs.OneAir.{same_itself}
use Rattle.air_core.proofs.PlainAside.{IsUnmoved, aside_silent, may_tech, alone_says, alone_steps}
use Rattle.air_core.proofs.PlainTurns.{joint_one}
use Rattle.nfca_poll.specs.declared.fault.PollFault.{PollFault}
use Rattle.t3t_tag.specs.declared.answer.T3Answer.{T3Answer}
use Rattle.t3t_tag.specs.declared.answer.T3Answer.TheVariants.{UpdateRefused}
use Rattle.t3t_tag.specs.Spelling.{answer_frame, check_code, update_code, write_service}
use Rattle.t3t_tag.specs.Step.{T3Turn, tells, not_taken, no_block, block_locked, blocks_answer, written_turn, t3_turn, sent, t3_answer, t3_after}
use Rattle.t3t_tag.specs.Store.{IsT3Store, T3State, attributes, block_count, is_locked}
use Rattle.t3t_tag.proofs.Steps.{check_turns, update_turns}
use Rattle.t3t_tag.proofs.Turns.{writes}
use Rattle.t3t_access.specs.Answers.{check_of, update_of, numbers}
use Rattle.t3t_access.specs.Polling.{picking_f, sensf_req}
use Rattle.t3t_access.specs.Reading.{count_at, check_at, first_checks, IsDue}
use Rattle.t3t_access.specs.Writing.{Takes, put_at, command_at, first_asked}
use Rattle.t3t_access.proofs.Laying.{put_long}
use Rattle.t3t_access.proofs.OwnReading.{at_is, length_numbers, so_far, within}
use Rattle.bench_devices.specs.declared.device.Device.{Device}
use Rattle.bench_devices.specs.declared.device.Device.TheVariants.{T2, T4, Peer, T5, T3}
use Rattle.bench_devices.specs.Device.{BenchWorld, air, devices, device_id}
use Rattle.bench_devices.specs.Hearing.{IsAnswered}
use Rattle.bench_devices.specs.Keeping.{AreSound, ghosts, kept}
use Rattle.bench_devices.specs.Lights.{three_named}
use Rattle.bench_devices.specs.Polling as polls
use Rattle.bench_devices.specs.Polling.{Followed, Told, follows}
use Rattle.bench_devices.specs.Powered.{Powered}
use Rattle.bench_devices.specs.Sensing.{has_three, is_three, seeking}
use Rattle.bench_devices.specs.ThreeAsking.{then_three, three_due}
use Rattle.bench_devices.specs.Threes.{ReadAsksThree, WriteAsksThree}
use Rattle.bench_devices.proofs.selected.CardHeard.{same_frame}
use Rattle.bench_devices.proofs.finding.Following.{asks_same, follows_on}
use Rattle.bench_devices.proofs.finding.Polls.{IsFresh, fresh_more}
use Rattle.bench_devices.proofs.turns.QuietRats.{laws}
use Rattle.bench_devices.proofs.turns.QuietWalk.{Passing, fated_passes, left_passing, told_passes}
use Rattle.bench_devices.proofs.finding.SeekingOne.{seeking_closes, seeks_no_light, seeks_one}
use Rattle.bench_devices.proofs.finding.SelectingKept.{kept_relit}
use Rattle.bench_devices.proofs.finding.SelectingPlaces.{others_before, others_behind}
use Rattle.bench_devices.proofs.finding.SelectingV.{are_relit, relit, relit_among, relit_aside}
use Rattle.bench_devices.proofs.finding.Sensed.{is_three_of, stays_sensed}
use Rattle.bench_devices.proofs.type3.ThreeLists.{all_more}
use Rattle.bench_devices.proofs.turns.Walk.{walk}
use Rattle.air_core.proofs.BrokenWaits.{never_light}

-- a command that each tag with this identifier answers
pub record IsHeeded (id : List ℕ) (f : Signal) : Type 0 where
  pub may : MayAsk Type3 id f
  pub tells : (t : T3State) → t.id ≡ id → (a : T3Answer) × ((t3_turn t f).answer ≡ Some a)

check_heeded : (id : List ℕ) → length id ≡ 8 → (first count : ℕ) → 1 ≤ count → count ≤ 15 → IsHeeded id (check_of id first count)
check_heeded id size first count least most = record {
  may = record { size = _; code = check_code; rest = _; frame = refl };
  tells = λ t named.
      let ns : List ℕ = numbers first count in
      let long : length ns ≡ count = length_numbers first count in
      let turn : t3_turn t (check_of t.id first count) ≡ tells t (blocks_answer t (Some ns)) = check_turns t (ap length named ∙ size) ns (omega (arith, long, least)) (omega (arith, long, most)) in
      let here : t3_turn t (check_of id first count) ≡ tells t (blocks_answer t (Some ns)) = subst (λ i. t3_turn t (check_of i first count) ≡ tells t (blocks_answer t (Some ns))) named turn in
      (blocks_answer t (Some ns), ap (λ (r : T3Turn). r.answer) here);
}

-- whatever becomes of an Update, it is told
update_told : (t : T3State) (block : ℕ) (content : List ℕ) (u v w : Bool)
    → (a : T3Answer)
    × ((if u then tells t (UpdateRefused t.id not_taken) else if v then tells t (UpdateRefused t.id no_block) else if w then tells t (UpdateRefused t.id block_locked)
    else writes t block content).answer ≡ Some a)
update_told t block content true v w = (_, refl)
update_told t block content false true w = (_, refl)
update_told t block content false false true = (_, refl)
update_told t block content false false false = (_, refl)

update_heeded : (id : List ℕ) → length id ≡ 8 → (block : ℕ) (content : List ℕ) → length content ≡ 16 → IsHeeded id (update_of id block content)
update_heeded id size block content long = record {
  may = record { size = _; code = update_code; rest = _; frame = refl };
  tells = λ t named.
      let turn : t3_turn t (update_of t.id block content) ≡ written_turn t write_service block content = update_turns t (ap length named ∙ size) block content long in
      let here : t3_turn t (update_of id block content) ≡ written_turn t write_service block content =
      subst (λ i. t3_turn t (update_of i block content) ≡ written_turn t write_service block content) named turn in
      let told = update_told t block content (not (write_service == write_service)) (nat_le (block_count t.store) block) (is_locked t block) in
      (told.0, ap (λ (r : T3Turn). r.answer) here ∙ told.1);
}

-- all that a read and a write ask
module _ (id store : List ℕ) (size : length id ≡ 8) (is : IsT3Store store) where
  checks_heeded : (n : ℕ) → ((k : ℕ) → k < n → IsDue (attributes store) k) → AllByRecursion (IsHeeded id) (first_checks id (attributes store) n)
  checks_heeded zero due = tt
  checks_heeded (suc n) due =
      let w = within store (attributes store) is n (λ k e. refl) (due n (omega arith)) in
      all_more (IsHeeded id) (first_checks id (attributes store) n) (check_at id (attributes store) n) (checks_heeded n (λ k less. due k (omega (arith, less))))
      (subst (IsHeeded id) (sym (at_is id (attributes store) n)) (check_heeded id size (so_far (attributes store) n) (count_at (attributes store) n) w.least w.most))

  pub reads_heeded : (asked : List Signal) → ReadAsksThree id store asked → AllByRecursion (IsHeeded id) asked
  reads_heeded asked r = subst (AllByRecursion (IsHeeded id)) (sym r.list) (checks_heeded r.count r.due)

  puts_heeded : (message : List ℕ) (n : ℕ) → ((k : ℕ) → k < n → Takes (attributes store) message) → AllByRecursion (IsHeeded id) (first_asked id (attributes store) message n)
  puts_heeded message zero takes = (check_heeded id size 0 1 (omega arith) (omega arith), tt)
  puts_heeded message (suc n) takes =
      all_more (IsHeeded id) (first_asked id (attributes store) message n) (command_at id (attributes store) message n) (puts_heeded message n (λ k less. takes k (omega (arith, less))))
      (update_heeded id size (put_at (attributes store) message n).block (put_at (attributes store) message n).content (put_long store message is (takes n (omega arith)) n))

  pub writes_heeded : (locked : List Bool) (message : List ℕ) (asked : List Signal) → WriteAsksThree id store locked message asked → AllByRecursion (IsHeeded id) asked
  writes_heeded locked message asked w = subst (AllByRecursion (IsHeeded id)) (sym w.list) (puts_heeded message w.count (λ k less. (w.due k less).takes))

-- In a lit field such a tag stands at a place, and all others are aside of it.
pub record StandsOn (id : List ℕ) (place : ℕ) (w : BenchWorld) : Type 0 where
  pub lit : w.lit ≡ true
  pub tag : Powered T3State
  pub alone : IsAlone ghosts id w.listeners place (T3 tag)
  pub named : tag.tag.id ≡ id
  pub on : tag.lit ≡ true

-- where all passes its answer is heard, and it stands there still
pub record Answered (id : List ℕ) (place : ℕ) (w : BenchWorld) (f : Signal) : Type 0 where
  pub answer : Signal
  pub heard : turn_heard air w f Pass Pass ≡ Some (Whole answer)
  pub stands : StandsOn id place (replay air w (turn_events air w f Pass Pass))

answers : (id : List ℕ) (place : ℕ) (w : BenchWorld) (f : Signal) → length id ≡ 8 → StandsOn id place w → IsHeeded id f → Answered id place w f
answers id place w f size s heeded =
    let p : Powered T3State = s.tag in
    let told = heeded.tells p.tag s.named in
    let answer : Signal = answer_frame told.0 in
    let new : Powered T3State = record { tag = t3_after p.tag f; lit = true } in
    let hear : hears devices (T3 p) f ≡ true = ap (same_tech F) (may_tech ghosts laws id F f heeded.may) ∙ same_itself F in
    let own : devices.answer (T3 p) f None ≡ Some answer = ap (λ v. if v then t3_answer p.tag f else None) s.on ∙ ap sent told.1 in
    let goes : devices.after (T3 p) f None ≡ T3 new = ap (λ v. T3 (if v then new else p)) s.on in
    let says : answered_by devices (T3 p) f None ≡ Some answer = ap (λ v. if v then devices.answer (T3 p) f None else None) hear ∙ own in
    let steps : stepped_by devices (T3 p) f None ≡ T3 new = ap (λ v. if v then devices.after (T3 p) f None else T3 p) hear ∙ goes in
    let aside : (x : Device) → IsAside ghosts id x → IsUnmoved ghosts laws id f x = λ x a. aside_silent ghosts laws id F f heeded.may size x a in
    let single : air.joint w f ≡ Single answer =
    ap joint (alone_says ghosts laws id f aside w.listeners place (T3 p) s.alone) ∙ ap (λ o. joint (cons_option o [])) says ∙ joint_one (Some answer) in
    let stepped : List Device = map (λ x. stepped_by devices x f None) w.listeners in
    let there : StandsOn id place (replay air w (Request f Pass ∷ joint_events (Single answer) Pass)) = record {
      lit = s.lit;
      tag = new;
      alone = subst (IsAlone ghosts id stepped place) steps (alone_steps ghosts laws id f aside w.listeners place (T3 p) s.alone);
      named = three_named p.tag f ∙ s.named;
      on = refl;
    } in
    record {
      answer = answer;
      heard = ap (λ j. heard_by Pass (joint_back j Pass)) single;
      stands = subst (λ j. StandsOn id place (replay air w (Request f Pass ∷ joint_events j Pass))) (sym single) there;
    }

-- A search for Type 3 tags leaves each device as it is.
none_moved : (ls : List Device) → map (λ x. stepped_by devices x sensf_req None) ls ≡ ls
none_moved [] = refl
none_moved (l ∷ ls) = ap (λ k. k ∷ map (λ x. stepped_by devices x sensf_req None) ls) (stays_sensed l) ∙ ap (λ xs. l ∷ xs) (none_moved ls)

still : (w : BenchWorld) → replay air w (turn_events air w sensf_req Pass Pass) ≡ w
still w = by_joint (air.joint w sensf_req)
  where
    by_joint : (j : Joint) → replay air w (Request sensf_req Pass ∷ joint_events j Pass) ≡ w
    by_joint Nothing = ap (λ ls. record w { listeners = ls }) (none_moved w.listeners)
    by_joint (Single g) = ap (λ ls. record w { listeners = ls }) (none_moved w.listeners)
    by_joint (Clashing g) = ap (λ ls. record w { listeners = ls }) (none_moved w.listeners)

-- A Type 3 tag that is placed stands so behind a reset.
record Amid (id : List ℕ) (ls : List Device) : Type 0 where
  pub before : List Device
  pub tag : Powered T3State
  pub behind : List Device
  pub split : ls ≡ before ++ T3 tag ∷ behind
  pub named : tag.tag.id ≡ id

amid_more : (id : List ℕ) (d : Device) (ls : List Device) → Amid id ls → Amid id (d ∷ ls)
amid_more id d ls r = record { before = d ∷ r.before; tag = r.tag; behind = r.behind; split = ap (λ xs. d ∷ xs) r.split; named = r.named }

amid : (id : List ℕ) (ls : List Device) → has_three id ls ≡ true → Amid id ls
amid id [] h = absurd cc
amid id (T2 d ∷ ls) h = amid_more id (T2 d) ls (amid id ls h)
amid id (T4 d ∷ ls) h = amid_more id (T4 d) ls (amid id ls h)
amid id (Peer d ∷ ls) h = amid_more id (Peer d) ls (amid id ls h)
amid id (T5 p ∷ ls) h = amid_more id (T5 p) ls (amid id ls h)
amid id (T3 p ∷ ls) h = by_first (is_three id (T3 p)) refl h (amid id ls)
  where
    by_first : (v : Bool) → is_three id (T3 p) ≡ v → (v || has_three id ls) ≡ true → (has_three id ls ≡ true → Amid id ls) → Amid id (T3 p ∷ ls)
    by_first true e k more = record { before = []; tag = p; behind = ls; split = refl; named = (is_three_of id (T3 p) e).1 }
    by_first false e k more = amid_more id (T3 p) ls (more k)

stands_relit : (id : List ℕ) (ls : List Device) → AreSound (map kept ls) → has_three id ls ≡ true → (place : ℕ) × StandsOn id place (record { lit = true; listeners = map relit ls })
stands_relit id ls sound h =
    let r = amid id ls h in
    let d : Device = relit (T3 r.tag) in
    let split : map relit ls ≡ map relit r.before ++ d ∷ map relit r.behind = ap (map relit) r.split ∙ relit_among r.before (T3 r.tag) r.behind in
    let whole : AreSound (map kept (map relit r.before ++ d ∷ map relit r.behind)) = subst (λ xs. AreSound (map kept xs)) split (subst AreSound (sym (kept_relit ls)) sound) in
    let first : AllByRecursion (λ l. device_id d ≡ device_id l → ⊥) (map relit r.before) = others_before (map relit r.before) d (map relit r.behind) whole in
    let later : AllByRecursion (λ l. device_id d ≡ device_id l → ⊥) (map relit r.behind) = others_behind (map relit r.before) d (map relit r.behind) whole in (
      length (map relit r.before),
      record {
        lit = refl;
        tag = record { tag = r.tag.tag; lit = true };
        alone = record {
          before = map relit r.before;
          behind = map relit r.behind;
          split = split;
          stands = refl;
          first = subst (λ i. AllByRecursion (IsAside ghosts i) (map relit r.before)) r.named (relit_aside (device_id d) (map relit r.before) (are_relit r.before) first);
          later = subst (λ i. AllByRecursion (IsAside ghosts i) (map relit r.behind)) r.named (relit_aside (device_id d) (map relit r.behind) (are_relit r.behind) later);
        };
        named = r.named;
        on = refl;
      },
    )

all_answered : (ns : List Note) (g : Signal) → AllByRecursion IsAnswered ns → AllByRecursion IsAnswered (ns ++ Got (Whole g) ∷ [])
all_answered [] g h = (tt, tt)
all_answered (n ∷ ns) g h = (h.0, all_answered ns g h.1)

module _ (id : List ℕ) (size : length id ≡ 8) (asked : List Signal) (a : Moment BenchWorld) (sound : AreSound (map kept a.world.listeners))
    (heeds : ((has_three id a.world.listeners ≡ true) × AllByRecursion (IsHeeded id) asked) ⊎ (asked ≡ [])) where
  -- of these commands each is answered, or there is none
  abbrev Goes : Moment BenchWorld → List Signal → Type 0
  Goes b left = ((place : ℕ) × StandsOn id place b.world × AllByRecursion (IsHeeded id) left) ⊎ (left ≡ [])

  record Behind (b : Moment BenchWorld) (hs : List Note) : Type 0 where
    pub since : List Note
    pub left : List Signal
    pub told : (ms : List Note) → seeking id (hs ++ ms) ≡ Told (Ok tt) (since ++ ms)
    pub all : AllByRecursion IsAnswered since
    pub next : (ms : List Note) → waits_next asked (since ++ ms) ≡ waits_next left ms
    pub goes : Goes b left

  record Seeks (b : Moment BenchWorld) (hs : List Note) : Type 0 where
    pub behind : List Note
    pub next : Next
    pub is : hs ≡ Lit ∷ behind
    pub told : follows (picking_f id) behind ≡ polls.Asks next
    pub goes : Goes b asked

  record Failed (hs : List Note) : Type 0 where
    pub fault : PollFault
    pub since : List Note
    pub told : seeking id hs ≡ Told (Err fault) since

  abbrev Course : Moment BenchWorld → List Note → Type 0
  Course b hs = ((hs ≡ []) × (b.world ≡ a.world)) ⊎ (Seeks b hs ⊎ (Behind b hs ⊎ Failed hs))

  -- behind a note more it has come to this
  sought : (b : Moment BenchWorld) (ks : List Note) → Goes b asked → (p : Followed (Unit {0})) → IsFresh p → follows (picking_f id) ks ≡ p → Course b (Lit ∷ ks)
  sought b ks goes (polls.Asks n) fresh at = inr (inl (record { behind = ks; next = n; is = refl; told = at; goes = goes }))
  sought b ks goes (Told (Ok x) ns) fresh at =
      let told : follows (picking_f id) ks ≡ Told (Ok tt) [] = at ∙ ap (λ ms. Told (Ok tt) ms) fresh in
      inr (inr (inl (record { since = []; left = asked; told = λ ms. follows_on (picking_f id) ks ms (Ok tt) told; all = tt; next = λ ms. refl; goes = goes })))
  sought b ks goes (Told (Err e) ns) fresh at = inr (inr (inr (record { fault = e; since = ns; told = at })))

  due_behind : (b : Moment BenchWorld) (hs : List Note) (x : Behind b hs) → three_due id asked hs ≡ waits_next x.left []
  due_behind b hs x =
      ap (λ ns. then_three asked (seeking id ns)) (sym (append-nil hs)) ∙ ap (then_three asked) (x.told []) ∙ x.next []

  turn_behind : (b c : Moment BenchWorld) (hs : List Note) (f : Signal) (h : Option Heard) (x : Behind b hs) → Passing b.queue → (left : List Signal)
      → ((ms : List Note) → waits_next asked (x.since ++ ms) ≡ waits_next left ms)
      → Goes b left → waits_next left [] ≡ Asks f → TurnsTo air b c f h → Behind c (hs ++ note h ∷ [])
  turn_behind b c hs f h x calm [] next goes due turn = absurd (let over : Over ≡ Asks f = due in cc)
  turn_behind b c hs f h x calm (g ∷ left) next (inr none) due turn = absurd cc
  turn_behind b c hs f h x calm (g ∷ left) next (inl (place, stands, heeded)) due turn =
      let same : g ≡ f = same_frame f g (sym due) in
      let r : Answered id place b.world f = answers id place b.world f size stands (subst (IsHeeded id) same heeded.0) in
      let world : c.world ≡ replay air b.world (turn_events air b.world f Pass Pass) =
      ap (λ (m : Moment BenchWorld). m.world) turn.moment ∙ ap (replay air b.world) (fated_passes air b.queue b.world f calm) in
      let heard : h ≡ Some (Whole r.answer) = turn.heard ∙ told_passes air b.queue b.world f calm ∙ r.heard in
      let B : Option Heard → Type 0 = λ o. Behind c (hs ++ note o ∷ []) in
      subst B (sym heard) (record {
        since = x.since ++ Got (Whole r.answer) ∷ [];
        left = left;
        told = λ ms. ap (seeking id) (append_assoc hs (Got (Whole r.answer) ∷ []) ms) ∙ x.told (Got (Whole r.answer) ∷ ms)
            ∙ ap (Told (Ok tt)) (sym (append_assoc x.since (Got (Whole r.answer) ∷ []) ms));
        all = all_answered x.since r.answer x.all;
        next = λ ms. ap (waits_next asked) (append_assoc x.since (Got (Whole r.answer) ∷ []) ms) ∙ next (Got (Whole r.answer) ∷ ms);
        goes = inl (place, subst (StandsOn id place) (sym world) r.stands, heeded.1);
      })

  due_seeking : (b : Moment BenchWorld) (hs : List Note) (x : Seeks b hs) → three_due id asked hs ≡ x.next
  due_seeking b hs x = ap (three_due id asked) x.is ∙ ap (then_three asked) x.told

  turns : (b c : Moment BenchWorld) (hs : List Note) (f : Signal) (h : Option Heard) → Course b hs → Passing b.queue → three_due id asked hs ≡ Asks f → TurnsTo air b c f h
      → Course c (hs ++ note h ∷ [])
  turns b c hs f h (inl x) calm due turn = absurd (let clash : LightUp ≡ Asks f = sym (ap (three_due id asked) x.0) ∙ due in cc)
  turns b c hs f h (inr (inl x)) calm due turn =
      let asks_f : x.next ≡ Asks f = sym (due_seeking b hs x) ∙ due in
      let one : f ≡ sensf_req = seeks_one id x.behind f (sym (asks_same (picking_f id) (seeking_closes id) x.behind) ∙ ap polls.asks x.told ∙ asks_f) in
      let world : c.world ≡ b.world =
      ap (λ (m : Moment BenchWorld). m.world) turn.moment ∙ ap (replay air b.world) (fated_passes air b.queue b.world f calm)
      ∙ ap (λ g. replay air b.world (turn_events air b.world g Pass Pass)) one ∙ still b.world in
      let goes : Goes c asked = subst (λ w. ((place : ℕ) × StandsOn id place w × AllByRecursion (IsHeeded id) asked) ⊎ (asked ≡ [])) (sym world) x.goes in
      let fresh : IsFresh (follows (picking_f id) (x.behind ++ note h ∷ [])) =
      fresh_more (picking_f id) (picking_f id).start ((picking_f id).ended (picking_f id).start) x.behind (note h) x.next x.told in
      subst (Course c) (sym (ap (λ ns. ns ++ note h ∷ []) x.is)) (sought c (x.behind ++ note h ∷ []) goes (follows (picking_f id) (x.behind ++ note h ∷ [])) fresh refl)
  turns b c hs f h (inr (inr (inl x))) calm due turn = inr (inr (inl (turn_behind b c hs f h x calm x.left x.next x.goes (sym (due_behind b hs x) ∙ due) turn)))
  turns b c hs f h (inr (inr (inr x))) calm due turn = absurd (let clash : Over ≡ Asks f = sym (ap (then_three asked) x.told) ∙ due in cc)

  -- a reset
  lights : (b : Moment BenchWorld) (hs : List Note) → Course b hs → three_due id asked hs ≡ LightUp → Course (with_events air b (Reset ∷ [])) (hs ++ Lit ∷ [])
  lights b hs (inl x) due =
      let c : Moment BenchWorld = with_events air b (Reset ∷ []) in
      let world : c.world ≡ record { lit = true; listeners = map relit a.world.listeners } = ap (λ (w : BenchWorld). record { lit = true; listeners = map relit w.listeners }) x.1 in
      let goes : Goes c asked = by_heeds c world heeds in
      subst (Course c) (sym (ap (λ ns. ns ++ Lit ∷ []) x.0)) (sought c [] goes (follows (picking_f id) []) tt refl)
    where
      by_heeds : (c : Moment BenchWorld) → c.world ≡ record { lit = true; listeners = map relit a.world.listeners }
          → ((has_three id a.world.listeners ≡ true) × AllByRecursion (IsHeeded id) asked) ⊎ (asked ≡ []) → Goes c asked
      by_heeds c world (inl (there, heeded)) =
          let s = stands_relit id a.world.listeners sound there in
          inl (s.0, subst (StandsOn id s.0) (sym world) s.1, heeded)
      by_heeds c world (inr none) = inr none
  lights b hs (inr (inl x)) due =
      absurd (seeks_no_light id x.behind (sym (asks_same (picking_f id) (seeking_closes id) x.behind) ∙ ap polls.asks x.told ∙ sym (due_seeking b hs x) ∙ due))
  lights b hs (inr (inr (inl x))) due = absurd (never_light (stand 0 x.left []) (sym (due_behind b hs x) ∙ due))
  lights b hs (inr (inr (inr x))) due = absurd (let clash : Over ≡ LightUp = sym (ap (then_three asked) x.told) ∙ due in cc)

  answered : (b : Moment BenchWorld) (hs : List Note) → Course b hs → (behind : List Note) → seeking id hs ≡ Told (Ok tt) behind → AllByRecursion IsAnswered behind
  answered b hs (inl x) behind e = absurd (let clash : polls.Asks LightUp ≡ Told (Ok tt) behind = sym (ap (seeking id) x.0) ∙ e in cc)
  answered b hs (inr (inl x)) behind e = absurd (let clash : polls.Asks x.next ≡ Told (Ok tt) behind = sym x.told ∙ sym (ap (seeking id) x.is) ∙ e in cc)
  answered b hs (inr (inr (inl x))) behind e =
      let both : Told (Ok tt) (x.since ++ []) ≡ Told (Ok tt) behind = sym (x.told []) ∙ ap (seeking id) (append-nil hs) ∙ e in
      let same : x.since ++ [] ≡ behind = cc in
      subst (AllByRecursion IsAnswered) (sym (append-nil x.since) ∙ same) x.all
  answered b hs (inr (inr (inr x))) behind e = absurd (let clash : ◌≡◌ {A = Followed (Unit {0})} (Told (Err x.fault) x.since) (Told (Ok tt) behind) = sym x.told ∙ e in cc)

  -- In a command that finds a Type 3 tag and asks it what it heeds, each note behind the search is a whole answer.
  pub three_hears : (es : List Event) → Passing a.queue → AreTurns air a.world es → FatesFrom a.queue es → EachDue (three_due id asked) [] es → (behind : List Note)
      → seeking id (receptions es) ≡ Told (Ok tt) behind
      → AllByRecursion IsAnswered behind
  three_hears es calm made fates each behind told =
      let end = walk air Passing left_passing (three_due id asked) Course (λ b hs x due. lights b hs x due) (λ b c hs f h x passes due turn. turns b c hs f h x passes due turn)
      made.moves a [] [] refl (inl (refl, refl)) calm (subst (EachDue (three_due id asked) []) made.made each) (subst (FatesFrom a.queue) made.made fates) in
      answered end.0 (receptions es) (subst (Course end.0) (ap receptions (sym made.made)) end.1) behind told
