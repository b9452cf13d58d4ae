-- The job of a message in an area.
use Rattle.std.proofs.Common.{◌≡◌, ◌≢◌, slice_index, ◌<◌, ℕ, zero, suc, ◌+◌, ◌*◌, ◌/◌, ◌≤◌, true, List, [], ◌∷◌, ◌++◌, length, take, drop, Option, Some, None, Ok, refl, sym, ◌∙◌, ap, subst, arith}
use Rattle.std.specs.List.{AllByRecursion, flat_map}
use Rattle.std.proofs.lemmas.List.{length-append, map-append, take-map}
use Rattle.t5t_tag.proofs.Stores.{size_of_block}
use Rattle.tlv_area.specs.declared.space.AreaMap.{AreaMap}
use Rattle.tlv_area.specs.declared.step.Step.{Step}
use Rattle.tlv_area.specs.declared.step.Plan.{Plan}
use Rattle.tlv_area.specs.Layout.{Tlv, bytes_at, spelling}
use Rattle.tlv_area.specs.Map.{IsMap, map_cells}
use Rattle.tlv_area.specs.Stores.{four_bytes}
use Rattle.tlv_area.specs.Tail.{message_tail, map_tail, map_room, capacity_of}
use Rattle.tlv_area.specs.Writing.{home, IsStepTo, IsWhole, IsNew, IsPlan, PlanKeeps, PlanForms, GivesPlan, KeepsPlan, KeepsKinds, after_step, after_steps, made, steps_of, image}
use Rattle.tlv_area.proofs.Places.{map_parts, tail_same}
use Rattle.tag_reader.specs.declared.how.How.{How}
use Rattle.tag_reader.specs.declared.how.How.TheVariants.{T2, T4, T5}
use Rattle.tag_reader.specs.Kinds.{IsStore, IsStoreForm}
use Rattle.tag_reader.specs.Access.{IsAccess}
use Rattle.tag_reader.specs.Survey.{block_size, written_area}
use Rattle.tag_reader.proofs.Accesses.{written_access}
use Rattle.tag_writer.specs.Puts.{put_into, after_puts, block_put, block_puts}
use Rattle.tag_writer.specs.Place.{Place, IsAreaPlace, IsPlaceBy, IsPlaceIn, HasPieces, tail_place}
use Rattle.tag_writer.specs.WriteAsked.{all_puts, AreAreaPuts, ArePuts}
use Rattle.tag_writer.specs.Law.{IsEmptied, IsWritten}
use Rattle.tag_writer.specs.Puttings.{IsPutOf, IsBlockPut}
use Rattle.tag_writer.specs.Counts.{IsHomePut, writes_at, EachIsOther, AreFew}
use Rattle.tag_writer.specs.Phases.{WriteJob, Serves, plan_parts}
use Rattle.tag_writer.proofs.Counting.{first_of_span, blocks_twice, blocks_once, blocks_other}
use Rattle.tag_writer.proofs.Jobs.{all_front, all_rest}
use Rattle.tag_writer.proofs.Touching.{blocks_inside, all_both}
use Rattle.tlv_area.proofs.StoreForms.{t2_start}

-- blocks that are put are the steps
put_step : (how : How) (size : ℕ) (store : List ℕ) (s : Step) → length s.content.items ≡ block_size how size → put_into store (block_put how size s) ≡ after_step (block_size how size) store s
put_step how size store s long = ap (λ n. take (block_size how size * s.block) store ++ s.content.items ++ drop (block_size how size * s.block + n) store) long

after_blocks : (how : How) (size : ℕ) (base store : List ℕ) (ss : List Step) → AllByRecursion (IsWhole (block_size how size) base) ss
    → after_puts store (block_puts how size ss) ≡ after_steps (block_size how size) store ss
after_blocks how size base store [] all = refl
after_blocks how size base store (s ∷ ss) all =
    ap (λ t. after_puts t (block_puts how size ss)) (put_step how size store s all.0.content)
    ∙ after_blocks how size base (after_step (block_size how size) store s) ss all.1

pub all_take : {A : Type 0} (P : A → Type 0) (n : ℕ) (xs : List A) → AllByRecursion P xs → AllByRecursion P (take n xs)
all_take P zero xs all = tt
all_take P (suc n) [] all = tt
all_take P (suc n) (x ∷ xs) all = (all.0, all_take P n xs all.1)

few : (o : Option Step) → length (made o) ≤ 1
few None = omega arith
few (Some s) = omega arith

long_puts : (how : How) (size : ℕ) (o : Option Step) → length (block_puts how size (made o)) ≤ 1
long_puts how size None = omega arith
long_puts how size (Some s) = omega arith

-- the steps as writes
block_ok : (how : How) (size least : ℕ) (store : List ℕ) (ss : List Step) → AllByRecursion (IsWhole (block_size how size) store) ss → AllByRecursion (λ s. least ≤ s.block) ss →
    AllByRecursion (IsBlockPut how size least store) (block_puts how size ss)
block_ok how size least store [] all low = tt
block_ok how size least store (s ∷ ss) all low = (record { step = s; put = refl; behind = low.0; content = all.0.content; within = all.0.room }, block_ok how size least store ss all.1 low.1)

-- how many addresses there are behind the type byte
pub room_is : (m : AreaMap) (memory : List ℕ) (ts : List Tlv) (t : Tlv) (after : List ℕ) → IsMap memory m ts t after → map_room m ≡ 1 + length (message_tail t.at after)
room_is m memory ts t after is =
    let cells : length (flat_map (λ u. u.at) ts) + length (t.at ++ after) ≡ length (map_cells m) =
    sym (length-append (flat_map (λ u. u.at) ts) (t.at ++ after)) ∙ ap length (map_parts m memory ts t after is) in
    let behind : length (message_tail t.at after) + 1 ≡ length (t.at ++ after) = by_cells t.at is.lies.bytes in
    omega (arith, cells, behind, is.place)
  where
    by_cells : (cells : List ℕ) → bytes_at memory cells ≡ spelling t → length (message_tail cells after) + 1 ≡ length (cells ++ after)
    by_cells [] e = absurd cc
    by_cells (x ∷ rest) e = omega arith

-- What a plan is known to do to a store with this map.
pub record IsPlanned (how : How) (size : ℕ) (m : AreaMap) (store message : List ℕ) (plan : Plan) : Type 0 where
  pub area : written_area how size store ≡ Ok m.space
  pub store' : IsStore how size store
  pub ts : List Tlv
  pub t : Tlv
  pub after : List ℕ
  pub map' : IsMap store m ts t after
  pub gives : GivesPlan (block_size how size) m store message plan
  pub keeps : KeepsPlan (block_size how size) m store message plan
  pub kinds : KeepsKinds (block_size how size) m store message plan
  pub writable : m.space.writable ≡ true
  pub fits : length message ≤ capacity_of (map_room m)

module _ (how : How) (size : ℕ) (m : AreaMap) (store message : List ℕ) (plan : Plan) (is : IsPlanned how size m store message plan) where
  abbrev block : ℕ
  block = block_size how size

  abbrev tail : List ℕ
  tail = message_tail is.t.at is.after

  abbrev place : Place
  place = tail_place tail message

  keeps : PlanKeeps block m.space is.ts tail store message plan
  keeps = is.keeps is.ts is.t is.after is.map'

  holds : IsAreaPlace m.space store message place
  holds = record { ts = is.ts; t = is.t; after = is.after; layout = is.map'.layout; lies = is.map'.lies; kind = is.map'.message; place' = refl }

  area_puts : AreAreaPuts how size m.space store message (plan_parts how size plan)
  area_puts =
      let same : map_tail m ≡ tail = tail_same m store is.ts is.t is.after is.map' in
      record {
        ts = is.ts;
        t = is.t;
        after = is.after;
        layout = is.map'.layout;
        lies = is.map'.lies;
        kind = is.map'.message;
        new = is.gives.0;
        is_new = subst (λ c. IsNew c store message is.gives.0) same is.gives.1;
        plan = plan;
        is_plan = subst (λ c. IsPlan block m.space.end c store message is.gives.0 plan) same is.gives.2;
        close = refl;
        fill = refl;
        last = refl;
      }

  fits : length message ≤ place.room
  fits = subst (λ n. length message ≤ capacity_of n) (room_is m store is.ts is.t is.after is.map') is.fits

  -- the stores that are passed
  image_is : (n : ℕ) → after_puts store (block_puts how size (made plan.close) ++ take n (block_puts how size plan.fill)) ≡ image block store plan n
  image_is n =
      let all : AllByRecursion (IsWhole block store) (steps_of plan) = keeps.whole in
      let front = all_front (IsWhole block store) (made plan.close ++ plan.fill) (made plan.last) all in
      ap (λ ps. after_puts store (block_puts how size (made plan.close) ++ ps)) (take-map (block_put how size) n plan.fill)
      ∙ ap (after_puts store) (sym (map-append (block_put how size) (made plan.close) (take n plan.fill)))
      ∙ after_blocks how size store store (made plan.close ++ take n plan.fill)
      (all_both (IsWhole block store) (made plan.close) (take n plan.fill) (all_front (IsWhole block store) (made plan.close) plan.fill front)
      (all_take (IsWhole block store) n plan.fill (all_rest (IsWhole block store) (made plan.close) plan.fill front)))

  puts_are : all_puts (plan_parts how size plan) ≡ block_puts how size (steps_of plan)
  puts_are =
      ap (λ ps. ps ++ block_puts how size (made plan.last)) (sym (map-append (block_put how size) (made plan.close) plan.fill))
      ∙ sym (map-append (block_put how size) (made plan.close ++ plan.fill) (made plan.last))

  new_is : after_puts store (all_puts (plan_parts how size plan)) ≡ after_steps block store (steps_of plan)
  new_is = ap (after_puts store) puts_are ∙ after_blocks how size store store (steps_of plan) keeps.whole

  low : (least : ℕ) → ((a : ℕ) → m.space.start ≤ a → least ≤ a / block) → AllByRecursion (λ s. least ≤ s.block) (steps_of plan)
  unfolding area_puts
  low least f = blocks_inside block m.space.end store message area_puts.new is.t is.after plan (λ k. least ≤ k) is.map'.lies is.map'.message area_puts.is_plan (λ a here. f a (keeps.inside a here).0)

  -- the job
  abbrev pub job : WriteJob
  job = record { how = how; size = size; store = store; message = message; place = place; parts = plan_parts how size plan }

  -- the home block is that of the span's first address
  home_is : home block tail ≡ slice_index place.span 0 / block
  home_is = ap (λ a. a / block) (sym (first_of_span tail message))

  last_home : (o : Option Step) (now content : List ℕ) → IsStepTo (home block tail) now content o → AllByRecursion (IsWhole block store) (made o) →
      AllByRecursion (λ p. (p.at ≡ block * (slice_index place.span 0 / block)) × (length p.bytes ≡ block)) (block_puts how size (made o))
  last_home None now content is whole = tt
  last_home (Some s) now content is whole = ((ap (λ k. block * k) (ap (λ (w : ℕ × List ℕ). w.0) is.0 ∙ home_is), whole.0.content), tt)

  home_by : AllByRecursion (λ p. (p.at ≡ block * (slice_index place.span 0 / block)) × (length p.bytes ≡ block)) (block_puts how size (made plan.last))
  unfolding area_puts
  home_by = last_home plan.last _ _ area_puts.is_plan.last (all_rest (IsWhole block store) (made plan.close ++ plan.fill) (made plan.last) keeps.whole)

  twice_by : 0 < block → writes_at (block * (slice_index place.span 0 / block)) (block_puts how size (steps_of plan)) ≤ 2
  twice_by some = subst (λ k. writes_at (block * k) (block_puts how size (steps_of plan)) ≤ 2) home_is (blocks_twice how size some (home block tail) (steps_of plan) keeps.twice)

  once_by : 0 < block → (a : ℕ) → a ≢ block * (slice_index place.span 0 / block) → writes_at a (block_puts how size (steps_of plan)) ≤ 1
  once_by some a other = blocks_once how size some (home block tail) a (steps_of plan) (λ e. other (e ∙ ap (λ k. block * k) home_is)) keeps.once

  other_by : EachIsOther store (block_puts how size (steps_of plan))
  other_by = blocks_other how size store store (steps_of plan) keeps.whole keeps.changed

  serves_by : PlanForms block (IsStoreForm how size) store message plan → IsPlaceIn how size store message place → IsAccess how size store true → HasPieces how store →
      ArePuts how size store message (plan_parts how size plan) → AllByRecursion (IsPutOf how size store) (block_puts how size (steps_of plan)) →
      AreFew how size store place (block_puts how size (steps_of plan)) → AllByRecursion (IsHomePut how size place) (block_puts how size (made plan.last)) → Serves job
  serves_by forms there free pieces are puts few_puts home_puts = record {
    store' = is.store';
    takes = record { holds = there; free = free; fits = fits; pieces = pieces };
    are = are;
    puts = subst (AllByRecursion (IsPutOf how size store)) (sym puts_are) puts;
    empty = λ n. subst (IsEmptied how size place store) (sym (image_is n)) (record { empty = forms.empty n; outside = keeps.outside n });
    new = subst (IsWritten how size message place store) (sym new_is) (record { new = keeps.new; holds = forms.holds });
    first = long_puts how size plan.close;
    last = long_puts how size plan.last;
    home = home_puts;
    few = subst (AreFew how size store place) (sym puts_are) few_puts;
  }

pub serves : (how : How) (size : ℕ) (m : AreaMap) (store message : List ℕ) (plan : Plan) → (is : IsPlanned how size m store message plan) → Serves (job how size m store message plan is)
serves T2 size m store message plan is =
    let kind = is.kinds is.ts is.t is.after is.map' in
    let start : m.space.start ≡ 16 = t2_start (four_bytes store 12) m.space is.area in
    serves_by T2 size m store message plan is (kind.t2 is.area)
    (subst (λ r. IsPlaceBy r store message (tail_place (message_tail is.t.at is.after) message)) (sym is.area) (holds T2 size m store message plan is))
    (subst (IsAccess T2 size store) is.writable (written_access T2 size store m.space is.area)) tt (m.space, is.area, area_puts T2 size m store message plan is)
    (block_ok T2 size 4 store (steps_of plan) (keeps T2 size m store message plan is).whole (low T2 size m store message plan is 4 (λ a in_. omega (arith, start, in_))))
    (record { twice = twice_by T2 size m store message plan is (omega arith); once = once_by T2 size m store message plan is (omega arith); changed = other_by T2 size m store message plan is })
    (home_by T2 size m store message plan is)
serves T4 size m store message plan is = absurd (let no_ = is.area in cc)
serves (T5 id) size m store message plan is =
    let kind = is.kinds is.ts is.t is.after is.map' in
    serves_by (T5 id) size m store message plan is (kind.t5 is.area)
    (subst (λ r. IsPlaceBy r store message (tail_place (message_tail is.t.at is.after) message)) (sym is.area) (holds (T5 id) size m store message plan is))
    (subst (IsAccess (T5 id) size store) is.writable (written_access (T5 id) size store m.space is.area)) tt (m.space, is.area, area_puts (T5 id) size m store message plan is)
    (block_ok (T5 id) size 0 store (steps_of plan) (keeps (T5 id) size m store message plan is).whole (low (T5 id) size m store message plan is 0 (λ a in_. omega arith)))
    (let some : 0 < size = (let sized = size_of_block size is.store'.sized in omega (arith, sized.2)) in
    record { twice = twice_by (T5 id) size m store message plan is some; once = once_by (T5 id) size m store message plan is some; changed = other_by (T5 id) size m store message plan is })
    (home_by (T5 id) size m store message plan is)
