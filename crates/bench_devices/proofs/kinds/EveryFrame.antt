-- What events leave of the devices, whatever is sent: what is fixed of each stays, and its store is one of its kind still. A device
-- that is aside keeps its store too.
use Rattle.std.proofs.Common.{◌≡◌, ℕ, suc, ◌+◌, ◌*◌, ◌/◌, ◌<◌, ◌≤◌, List, [], ◌∷◌, ◌++◌, length, map, slice_index, Bool, true, false, nat_eq, if◌then◌else◌, Option, Some, None, refl, sym, ◌∙◌, ap}
use Rattle.std.proofs.Common.{subst, arith}
use Rattle.std.specs.List.{AllByRecursion}
use Rattle.std.proofs.lemmas.List.{length-append}
use Rattle.std.specs.Cmp.Lexicographic.{pointwise}
use Rattle.nfc_base.specs.declared.frame.Tech.{Tech}
use Rattle.nfc_base.specs.declared.frame.Tech.TheVariants.{A, V, F}
use Rattle.nfc_base.specs.declared.event.Event.{Event}
use Rattle.nfc_base.specs.declared.event.Event.TheVariants.{Reset, Request, Answer, Clash}
use Rattle.nfc_base.specs.declared.event.Fate.{Fate}
use Rattle.nfc_base.specs.declared.event.Fate.TheVariants.{Pass, Damage, Lose, Break}
use Rattle.nfc_base.specs.Signal.{Signal}
use Rattle.nfc_base.specs.Blocks.{with_block}
use Rattle.nfc_base.specs.TagLinks.{MayAsk, IsNamedIn, addressed, addressed_f}
use Rattle.air_core.specs.World.{hears, stepped_by, requested, came_back}
use Rattle.air_core.specs.Conversation.{Note, Next, Asks, Moment, Going, replay}
use Rattle.air_core.specs.PlainTags.{plain_kind, IsAside}
use Rattle.nfca_poll.specs.Calls.{call_of}
use Rattle.nfca_poll.specs.Front.{Front, Off, Idle, Sleep, Ready, Active, front_next}
use Rattle.nfca_poll.specs.Fronted.{Fronted, left_at, active_after, after_by}
use Rattle.nfca_poll.specs.Levels.{levels}
use Rattle.t2t_tag.specs.declared.command.T2Command.{T2Command}
use Rattle.t2t_tag.specs.declared.command.T2Command.TheVariants.{Read, Write}
use Rattle.t2t_tag.specs.Spelling.{spelled_command}
use Rattle.t2t_tag.specs.Step.{is_writable, t2_obeyed, reply_frame, held_after}
use Rattle.t2t_tag.specs.Store as t2
use Rattle.t2t_tag.specs.Store.{T2Memory, IsT2Store}
use Rattle.t2t_tag.proofs.Spellings.{exact_by}
use Rattle.t4t_tag.specs.Store.{T4State, IsSameTag, IsT4Store, store_of}
use Rattle.t5t_tag.specs.Store.{T5State}
use Rattle.t5t_tag.specs.Step.{T5Turn, out_of_round, t5_after}
use Rattle.t5t_tag.proofs.Stores.{still_store}
use Rattle.t5t_tag.proofs.Steps.{same_tag as same_five, other_silent}
use Rattle.tlv_area.proofs.Stepping.{length-with_block, block_before}
use Rattle.bench_devices.specs.Cards.{T4Near}
use Rattle.bench_devices.specs.Powered.{Powered}
use Rattle.bench_devices.specs.declared.device.Device.{Device}
use Rattle.bench_devices.specs.declared.device.Device.TheVariants.{T2, T4, Peer, T5, T3}
use Rattle.bench_devices.specs.Device.{BenchWorld, air, devices, device_id, device_store, says_of, t2_machine, t4_machine}
use Rattle.bench_devices.specs.Placed.{device_with, IfPlaced}
use Rattle.bench_devices.specs.Keeping.{ghosts, Fixed, fixed, kept, IsSound, IsApart, AreSound, AreTame, StaysDevice, AllStayDevices, held_by, images_of, IsStoreOf, AreImages, DevicesStay, ImagesStay}
use Rattle.bench_devices.specs.Keeping.{AsideKeeps, Changes, NoStore, StoreOf, AllKeepBut, LeavesDevices, EachAsked, IsAsideOf}
use Rattle.bench_devices.proofs.finding.SelectingKept.{due_asked, kept_dark, kept_lit}
use Rattle.bench_devices.proofs.selected.CardKept.{IsAtRest, fixed_step, four_same, rest_keeps, rest_stays, dark_at_rest, lit_at_rest}
use Rattle.t3t_tag.specs.Store.{T3State}
use Rattle.t3t_tag.specs.Step.{t3_after, T3Turn}
use Rattle.bench_devices.specs.Lights.{three_after, three_silent}
use Rattle.t3t_tag.proofs.Stores.{still_blocks, length_with_block as length_three}

-- A changed block behind the first four leaves a store of a Type 2 tag one: its size and its capability container stay.
two_written : (store : List ℕ) (block : ℕ) (content : List ℕ) → length content ≡ 4 → 4 ≤ block → block < t2.block_count store → IsT2Store store → IsT2Store (with_block 4 store block content)
two_written store block content long low high is =
    let room : block * 4 + 4 ≤ length store = omega (arith, high) in
    let same : length (with_block 4 store block content) ≡ length store = length-with_block 4 store block content long room in
    let count : t2.block_count (with_block 4 store block content) ≡ t2.block_count store = ap (λ n. n / 4) same in
    let magic : slice_index (with_block 4 store block content) 12 ≡ slice_index store 12 = block_before 4 store block content long room 12 (omega (arith, low)) in
    let area : slice_index (with_block 4 store block content) 14 ≡ slice_index store 14 = block_before 4 store block content long room 14 (omega (arith, low)) in
    record {
      whole = omega (arith, same, is.whole);
      least = omega (arith, count, is.least);
      most = omega (arith, count, is.most);
      area = λ m a. let behind : 4 + 2 * slice_index store 14 ≤ t2.block_count store = is.area (sym magic ∙ m) (omega (arith, area, a)) in omega (arith, area, count, behind);
    }

-- a store that is as long as another, and one of a tag where that is
record StaysStore (old new : List ℕ) : Type 0 where
  pub long : length new ≡ length old
  pub sound : IsT2Store old → IsT2Store new

store_itself : (old new : List ℕ) → new ≡ old → StaysStore old new
store_itself old new same = record { long = ap length same; sound = λ is. subst IsT2Store (sym same) is }

two_obeyed : (u : T2Memory) (c : T2Command) (f : Signal) → spelled_command f ≡ Some c → StaysStore u.store (t2_obeyed u c).store
two_obeyed u (Read block) f spelled = store_itself u.store u.store refl
two_obeyed u (Write block content) f spelled = by_free (is_writable u block) refl
  where
    by_free : (v : Bool) → is_writable u block ≡ v → StaysStore u.store (if v then record u { store = with_block 4 u.store block content } else u).store
    by_free true e =
        let four : length content ≡ 4 = ((exact_by f (spelled_command f) refl (Write block content)).0 spelled).0 in
        let low : 4 ≤ block = grind (arith, e) in
        let high : block < t2.block_count u.store = grind (arith, e) in
        record { long = length-with_block 4 u.store block content four (omega (arith, high)); sound = λ is. two_written u.store block content four low high is }
    by_free false e = store_itself u.store u.store refl

two_left : (front next : Front) (u : T2Memory) → (left_at t2_machine front next u).store ≡ u.store
two_left Off next u = refl
two_left Idle next u = refl
two_left Sleep next u = refl
two_left (Ready k starred) next u = refl
two_left (Active starred) Off u = refl
two_left (Active starred) Idle u = refl
two_left (Active starred) Sleep u = refl
two_left (Active starred) (Ready k other) u = refl
two_left (Active starred) (Active other) u = refl

two_active : (d : Fronted T2Memory) (f : Signal) (o : Option T2Command) → spelled_command f ≡ o
    → StaysStore d.upper.store (active_after t2_machine (says_of (reply_frame d.upper o)) (held_after d.upper o) d f).upper.store
two_active d f None e = store_itself d.upper.store _ (two_left d.front (front_next (levels d.id) d.front (call_of f)) d.upper)
two_active d f (Some c) e = two_obeyed d.upper c f e

two_store : (front : Front) (d : Fronted T2Memory) (f : Signal) → StaysStore d.upper.store (after_by t2_machine front d f None).upper.store
two_store Off d f = store_itself d.upper.store _ (two_left d.front (front_next (levels d.id) d.front (call_of f)) d.upper)
two_store Idle d f = store_itself d.upper.store _ (two_left d.front (front_next (levels d.id) d.front (call_of f)) d.upper)
two_store Sleep d f = store_itself d.upper.store _ (two_left d.front (front_next (levels d.id) d.front (call_of f)) d.upper)
two_store (Ready k starred) d f = store_itself d.upper.store _ (two_left d.front (front_next (levels d.id) d.front (call_of f)) d.upper)
two_store (Active starred) d f = two_active d f (spelled_command f) refl

-- The store of a Type 4 tag stays one: its code and its container stay, and the length of its file.
four_file : (t u : T4State) → IsSameTag t u → IsT4Store t.code t.container t.file → IsT4Store t.code t.container u.file
four_file t u same is = record { coded = is.coded; least = is.least; most = is.most; other = is.other; size = is.size; whole = same.length ∙ is.whole }

cut_front : (c : List ℕ) (a b : List ℕ) → c ++ a ≡ c ++ b → a ≡ b
cut_front [] a b e = e
cut_front (x ∷ c) a b e = cut_front c a b (let k : c ++ a ≡ c ++ b = cc in k)

-- What is fixed being the same, a device is sound where its store is one of its kind.
abbrev IsStoreBy : Fixed → List ℕ → Type 0
IsStoreBy x store = IsSound (record { fixed = x; store = store })

-- What a device holds behind a frame: as much, and a store of its kind.
record HoldsOn (d : Device) (store : List ℕ) : Type 0 where
  pub long : length store ≡ length (device_store d)
  pub sound : IsSound (kept d) → IsStoreOf d store

heard_holds : (d e : Device) → HoldsOn d (device_store e) → (v : Bool) → HoldsOn d (device_store (if v then e else d))
heard_holds d e on true = on
heard_holds d e on false = record { long = refl; sound = λ is. is }

four_holds : (d : Fronted T4Near) (f : Signal) → HoldsOn (T4 d) (device_store (devices.after (T4 d) f None))
four_holds d f =
    let new : T4State = (after_by t4_machine d.front d f None).upper.tag in
    let same = four_same d f in
    let file_of : IsSound (kept (T4 d)) → IsT4Store d.upper.tag.code d.upper.tag.container d.upper.tag.file =
    λ is. subst (λ xs. IsT4Store d.upper.tag.code d.upper.tag.container xs) (sym (cut_front d.upper.tag.container d.upper.tag.file is.1 is.2)) is.3 in
    let a : length (store_of new) ≡ length new.container + length new.file = length-append new.container new.file in
    let b : length (store_of d.upper.tag) ≡ length d.upper.tag.container + length d.upper.tag.file = length-append d.upper.tag.container d.upper.tag.file in
    let container : length new.container ≡ length d.upper.tag.container = ap length same.container in
    record {
      long = omega (arith, a, b, container, same.length);
      sound = λ is. (is.0, new.file, ap (λ c. c ++ new.file) same.container, four_file d.upper.tag new same (file_of is), is.4, is.5);
    }

five_holds : (p : Powered T5State) (f : Signal) (v : Bool) → HoldsOn (T5 p) (device_store (T5 (if v then record { tag = t5_after p.tag f; lit = true } else p)))
five_holds p f true =
    let new : T5State = t5_after p.tag f in
    let long : length new.store ≡ length p.tag.store = (same_five p.tag f).length in
    record { long = long; sound = λ is. (is.0, is.1, is.2, still_store p.tag.size p.tag.store new.store long is.3) }
five_holds p f false = record { long = refl; sound = λ is. is }

-- The store of a Type 3 tag stays as long, and so whole blocks.
three_long : (t : T3State) (f : Signal) → length (t3_after t f).store ≡ length t.store
three_long t f = three_after t f (λ r. length r.after.store ≡ length t.store) (record {
  silent_too = refl;
  told_too = λ a. refl;
  written = λ block content within long. length_three t.store block content within long;
})

three_holds : (p : Powered T3State) (f : Signal) (v : Bool) → HoldsOn (T3 p) (device_store (T3 (if v then record { tag = t3_after p.tag f; lit = true } else p)))
three_holds p f true =
    let long : length (t3_after p.tag f).store ≡ length p.tag.store = three_long p.tag f in
    record { long = long; sound = λ is. (is.0, is.1, still_blocks p.tag.store (t3_after p.tag f).store long is.2) }
three_holds p f false = record { long = refl; sound = λ is. is }

holds_step : (d : Device) (f : Signal) → HoldsOn d (device_store (stepped_by devices d f None))
holds_step (T2 d) f =
    let on = two_store d.front d f in
    heard_holds (T2 d) (devices.after (T2 d) f None) (record { long = on.long; sound = λ is. (is.0, is.1, on.sound is.2) }) (hears devices (T2 d) f)
holds_step (T4 d) f = heard_holds (T4 d) (devices.after (T4 d) f None) (four_holds d f) (hears devices (T4 d) f)
holds_step (Peer d) f = heard_holds (Peer d) (devices.after (Peer d) f None) (record { long = refl; sound = λ is. is }) (hears devices (Peer d) f)
holds_step (T5 p) f = heard_holds (T5 p) (devices.after (T5 p) f None) (five_holds p f p.lit) (hears devices (T5 p) f)
holds_step (T3 p) f = heard_holds (T3 p) (devices.after (T3 p) f None) (three_holds p f p.lit) (hears devices (T3 p) f)

-- So frames, the dark and light leave a device one that may be placed.
stays_by : (d e : Device) → fixed e ≡ fixed d → HoldsOn d (device_store e) → StaysDevice d e
stays_by d e same on = record { fixed = same; long = on.long; sound = λ is. subst (λ x. IsStoreBy x (device_store e)) (sym same) (on.sound is) }

pub stays_step : (f : Signal) (d : Device) → StaysDevice d (stepped_by devices d f None)
stays_step f d = stays_by d (stepped_by devices d f None) (fixed_step d f) (holds_step d f)

kept_stays : (d e : Device) → kept e ≡ kept d → StaysDevice d e
kept_stays d e same = record { fixed = ap (λ k. k.fixed) same; long = ap (λ k. length k.store) same; sound = λ is. subst IsSound (sym same) is }

stays_dark : (d : Device) → StaysDevice d (devices.darkened d)
stays_dark d = kept_stays d (devices.darkened d) (kept_dark d)

stays_reset : (d : Device) → StaysDevice d (devices.woken (devices.darkened d))
stays_reset d = kept_stays d (devices.woken (devices.darkened d)) (kept_lit (devices.darkened d) ∙ kept_dark d)

stays_itself : (d : Device) → StaysDevice d d
stays_itself d = kept_stays d d refl

stays_on : (d e x : Device) → StaysDevice d e → StaysDevice e x → StaysDevice d x
stays_on d e x p q = record { fixed = q.fixed ∙ p.fixed; long = q.long ∙ p.long; sound = λ is. q.sound (p.sound is) }

pub same_id : (d e : Device) → StaysDevice d e → device_id e ≡ device_id d
same_id d e s = ap (λ (k : Fixed). k.id) s.fixed

all_same : (ds : List Device) → AllStayDevices ds ds
all_same [] = tt
all_same (d ∷ ds) = (stays_itself d, all_same ds)

all_on : (ds es xs : List Device) → AllStayDevices ds es → AllStayDevices es xs → AllStayDevices ds xs
all_on [] [] [] p q = tt
all_on [] [] (x ∷ xs) p q = absurd q
all_on [] (e ∷ es) xs p q = absurd p
all_on (d ∷ ds) [] xs p q = absurd p
all_on (d ∷ ds) (e ∷ es) [] p q = absurd q
all_on (d ∷ ds) (e ∷ es) (x ∷ xs) p q = (stays_on d e x p.0 q.0, all_on ds es xs p.1 q.1)

all_map : (g : Device → Device) → ((d : Device) → StaysDevice d (g d)) → (ds : List Device) → AllStayDevices ds (map g ds)
all_map g says [] = tt
all_map g says (d ∷ ds) = (says d, all_map g says ds)

requested_stays : (w : BenchWorld) (f : Signal) (x : Fate) → AllStayDevices w.listeners (requested devices w f x).listeners
requested_stays w f Pass = all_map (λ l. stepped_by devices l f None) (stays_step f) w.listeners
requested_stays w f Damage = all_same w.listeners
requested_stays w f Lose = all_same w.listeners
requested_stays w f Break = all_map devices.darkened stays_dark w.listeners

back_stays : (w : BenchWorld) (x : Fate) → AllStayDevices w.listeners (came_back devices w x).listeners
back_stays w Pass = all_same w.listeners
back_stays w Damage = all_same w.listeners
back_stays w Lose = all_same w.listeners
back_stays w Break = all_map devices.darkened stays_dark w.listeners

pub event_stays : (w : BenchWorld) (e : Event) → AllStayDevices w.listeners (air.happens w e).listeners
event_stays w Reset = all_map (λ l. devices.woken (devices.darkened l)) stays_reset w.listeners
event_stays w (Request f x) = requested_stays w f x
event_stays w (Answer g x) = back_stays w x
event_stays w (Clash g x) = back_stays w x

pub devices_stay : DevicesStay
devices_stay w [] = all_same w.listeners
devices_stay w (e ∷ es) = all_on w.listeners (air.happens w e).listeners (replay air (air.happens w e) es).listeners (event_stays w e) (devices_stay (air.happens w e) es)

-- The device with an identifier stays one.
abbrev IsOne : Device → Option Device → Type 0
IsOne d None = ⊥
IsOne d (Some e) = StaysDevice d e

first_stays : (id : List ℕ) (ds es : List Device) (d : Device) → AllStayDevices ds es → device_with id ds ≡ Some d → IsOne d (device_with id es)
first_stays id [] [] d p e = absurd cc
first_stays id [] (y ∷ es) d p e = absurd p
first_stays id (x ∷ ds) [] d p e = absurd p
first_stays id (x ∷ ds) (y ∷ es) d p e =
    subst (λ i. IsOne d (if pointwise nat_eq i id then Some y else device_with id es)) (sym (same_id x y p.0)) (by_name (pointwise nat_eq (device_id x) id) e (λ q. first_stays id ds es d p.1 q))
  where
    by_name : (v : Bool) → (if v then Some x else device_with id ds) ≡ Some d → (device_with id ds ≡ Some d → IsOne d (device_with id es)) → IsOne d (if v then Some y else device_with id es)
    by_name true q more = let same : x ≡ d = cc in subst (λ z. StaysDevice z y) same p.0
    by_name false q more = more q

pub sound_stay : (ds es : List Device) → AllStayDevices ds es → AreSound (map kept ds) → AreSound (map kept es)
sound_stay [] [] p s = tt
sound_stay [] (e ∷ es) p s = absurd p
sound_stay (d ∷ ds) [] p s = absurd p
sound_stay (d ∷ ds) (e ∷ es) p s = (p.0.sound s.0, apart ds es p.1 s.1, sound_stay ds es p.1 s.2)
  where
    apart : (xs ys : List Device) → AllStayDevices xs ys → AllByRecursion (IsApart (kept d)) (map kept xs) → AllByRecursion (IsApart (kept e)) (map kept ys)
    apart [] [] q a = tt
    apart [] (y ∷ ys) q a = absurd q
    apart (x ∷ xs) [] q a = absurd q
    apart (x ∷ xs) (y ∷ ys) q a = ((λ same. a.0 (sym (ap (λ (k : Fixed). k.id) q.0.fixed) ∙ same ∙ ap (λ (k : Fixed). k.id) p.0.fixed)), apart xs ys q.1 a.1)

-- and what it holds is a store of its kind
module _ (id : List ℕ) (d : Device) (is : IsSound (kept d)) where
  held_so : (o : Option Device) → IsOne d o → IsStoreOf d (held_by o)
  held_so None one = absurd one
  held_so (Some e) one = subst (λ x. IsStoreBy x (device_store e)) one.fixed (one.sound is)

  one_more : (o : Option Device) (ds es : List Device) → device_with id ds ≡ o → AllStayDevices ds es → IsOne d o → IsOne d (device_with id es)
  one_more None ds es e p one = absurd one
  one_more (Some x) ds es e p one = on (device_with id es) (first_stays id ds es x p e)
    where
      on : (o : Option Device) → IsOne x o → IsOne d o
      on None two = absurd two
      on (Some y) two = stays_on d x y one two

  all_images : (w : BenchWorld) (es : List Event) → IsOne d (device_with id w.listeners) → AllByRecursion (IsStoreOf d) (images_of id w es)
  all_images w [] one = (held_so (device_with id w.listeners) one, tt)
  all_images w (e ∷ es) one = (
    held_so (device_with id w.listeners) one,
    all_images (air.happens w e) es (one_more (device_with id w.listeners) w.listeners (air.happens w e).listeners refl (event_stays w e) one),
  )

-- where the device with an identifier may be placed, each image is a store that it may have
abbrev pub IsSoundOne : List ℕ → List Device → Type 0
IsSoundOne id ds = IfPlaced (λ d. IsSound (kept d)) (Unit {0}) (device_with id ds)

pub images_sound : (w : BenchWorld) (es : List Event) (id : List ℕ) → IsSoundOne id w.listeners → AreImages id w es
images_sound w es id sound = by_found (device_with id w.listeners) refl sound
  where
    by_found : (o : Option Device) → device_with id w.listeners ≡ o → IfPlaced (λ d. IsSound (kept d)) (Unit {0}) o → IfPlaced (λ d. AllByRecursion (IsStoreOf d) (images_of id w es)) (Unit {0}) o
    by_found None e is = tt
    by_found (Some d) e is = all_images id d is w es (subst (IsOne d) (sym e) (stays_itself d))

first_sound : (id : List ℕ) (ds : List Device) → AreSound (map kept ds) → IsSoundOne id ds
first_sound id [] s = tt
first_sound id (x ∷ ds) s = by_name (pointwise nat_eq (device_id x) id) (first_sound id ds s.2)
  where
    by_name : (v : Bool) → IsSoundOne id ds → IfPlaced (λ d. IsSound (kept d)) (Unit {0}) (if v then Some x else device_with id ds)
    by_name true more = s.0
    by_name false more = more

pub images_stay : ImagesStay
images_stay w es id s = images_sound w es id (first_sound id w.listeners s)

-- A device that is aside: a whole frame of NFC-A finds it at rest, and what is addressed to another identifier it passes over.
five_aside : (lit : Bool) (p : Powered T5State) (f : Signal) → t5_after p.tag f ≡ out_of_round p.tag → kept (T5 (if lit then record { tag = t5_after p.tag f; lit = true } else p)) ≡ kept (T5 p)
five_aside true p f same = ap (λ t. kept (T5 (record { tag = t; lit = true }))) same
five_aside false p f same = refl

addressed_keeps : (own : List ℕ) (code : ℕ) (rest : List ℕ) (d : Device) → length own ≡ 8 → IsAside ghosts own d → kept (stepped_by devices d (addressed own code rest) None) ≡ kept d
addressed_keeps own code rest (T2 d) eight a = refl
addressed_keeps own code rest (T4 d) eight a = refl
addressed_keeps own code rest (Peer d) eight a = refl
addressed_keeps own code rest (T5 p) eight a = five_aside p.lit p (addressed own code rest) (ap (λ (r : T5Turn). r.after) (other_silent p.tag own eight a.other code rest))
addressed_keeps own code rest (T3 p) eight a = refl

-- likewise a frame of NFC-F, which Type 3 tags alone hear
three_aside : (v : Bool) (p : Powered T3State) (f : Signal) → t3_after p.tag f ≡ p.tag → kept (T3 (if v then record { tag = t3_after p.tag f; lit = true } else p)) ≡ kept (T3 p)
three_aside true p f same = ap (λ t. kept (T3 (record { tag = t; lit = true }))) same
three_aside false p f same = refl

named_keeps : (own : List ℕ) (size code : ℕ) (rest : List ℕ) (d : Device) → length own ≡ 8 → IsAside ghosts own d → kept (stepped_by devices d (addressed_f own size code rest) None) ≡ kept d
named_keeps own size code rest (T2 d) eight a = refl
named_keeps own size code rest (T4 d) eight a = refl
named_keeps own size code rest (Peer d) eight a = refl
named_keeps own size code rest (T5 p) eight a = refl
named_keeps own size code rest (T3 p) eight a =
    three_aside p.lit p (addressed_f own size code rest) (ap (λ (r : T3Turn). r.after) (three_silent p.tag own size code rest eight a.other))

named_rests : (own : List ℕ) (size code : ℕ) (rest : List ℕ) (d : Device) → IsAside ghosts own d → IsAtRest (stepped_by devices d (addressed_f own size code rest) None)
named_rests own size code rest (T2 d) a = a.rests
named_rests own size code rest (T4 d) a = a.rests
named_rests own size code rest (Peer d) a = a.rests
named_rests own size code rest (T5 p) a = a.rests
named_rests own size code rest (T3 p) a = λ t. absurd cc

pub aside_keeps : AsideKeeps
aside_keeps own A f d may named a = subst (λ g. kept (stepped_by devices d g None) ≡ kept d) (sym may) (rest_keeps d f.bytes a.rests)
aside_keeps own V f d may named a = subst (λ g. kept (stepped_by devices d g None) ≡ kept d) (sym may.frame) (addressed_keeps own may.code may.rest d named a)
aside_keeps own F f d may named a = subst (λ g. kept (stepped_by devices d g None) ≡ kept d) (sym may.frame) (named_keeps own may.size may.code may.rest d named a)

-- It stays aside.
addressed_rests : (own : List ℕ) (code : ℕ) (rest : List ℕ) (d : Device) → IsAside ghosts own d → IsAtRest (stepped_by devices d (addressed own code rest) None)
addressed_rests own code rest (T2 d) a = a.rests
addressed_rests own code rest (T4 d) a = a.rests
addressed_rests own code rest (Peer d) a = a.rests
addressed_rests own code rest (T5 p) a = λ t. absurd cc
addressed_rests own code rest (T3 p) a = a.rests

step_rests : (own : List ℕ) (t : Tech) (f : Signal) (d : Device) → MayAsk (plain_kind t) own f → IsAside ghosts own d → IsAtRest (stepped_by devices d f None)
step_rests own A f d may a = subst (λ g. IsAtRest (stepped_by devices d g None)) (sym may) (rest_stays d f.bytes a.rests)
step_rests own V f d may a = subst (λ g. IsAtRest (stepped_by devices d g None)) (sym may.frame) (addressed_rests own may.code may.rest d a)
step_rests own F f d may a = subst (λ g. IsAtRest (stepped_by devices d g None)) (sym may.frame) (named_rests own may.size may.code may.rest d a)

-- What leaves each device aside as it is but in its state, and any other what is fixed of it and a store of its kind.
record IsQuietFor (own : List ℕ) (g : Device → Device) : Type 0 where
  pub stays : (d : Device) → StaysDevice d (g d)
  pub keeps : (d : Device) → IsAside ghosts own d → kept (g d) ≡ kept d
  pub rests : (d : Device) → IsAside ghosts own d → IsAtRest (g d)

module _ (own : List ℕ) where
  beside_on : (g : Device → Device) → IsQuietFor own g → (d : Device) → IsAsideOf own d → IsAsideOf own (g d)
  beside_on g q d b other =
      let same = same_id d (g d) (q.stays d) in
      let aside : IsAside ghosts own d = b (λ e. other (same ∙ e)) in
      record { rests = q.rests d aside; other = λ e. aside.other (e ∙ same) }

  all_beside : (g : Device → Device) → IsQuietFor own g → (ds : List Device) → AllByRecursion (IsAsideOf own) ds → AllByRecursion (IsAsideOf own) (map g ds)
  all_beside g q [] b = tt
  all_beside g q (d ∷ ds) b = (beside_on g q d b.0, all_beside g q ds b.1)

  but_map : (g : Device → Device) → IsQuietFor own g → (ds : List Device) → AllByRecursion (IsAsideOf own) ds → AllKeepBut own ds (map g ds)
  but_map g q [] b = tt
  but_map g q (d ∷ ds) b = (record { stays = q.stays d; other = λ n. q.keeps d (b.0 n) }, but_map g q ds b.1)

  but_same : (ds : List Device) → AllKeepBut own ds ds
  but_same [] = tt
  but_same (d ∷ ds) = (record { stays = stays_itself d; other = λ n. refl }, but_same ds)

  but_on : (ds es xs : List Device) → AllKeepBut own ds es → AllKeepBut own es xs → AllKeepBut own ds xs
  but_on [] [] [] p q = tt
  but_on [] [] (x ∷ xs) p q = absurd q
  but_on [] (e ∷ es) xs p q = absurd p
  but_on (d ∷ ds) [] xs p q = absurd p
  but_on (d ∷ ds) (e ∷ es) [] p q = absurd q
  but_on (d ∷ ds) (e ∷ es) (x ∷ xs) p q = (
    record {
      stays = stays_on d e x p.0.stays q.0.stays;
      other = λ n. q.0.other (λ i. n (sym (same_id d e p.0.stays) ∙ i)) ∙ p.0.other n;
    },
    but_on ds es xs p.1 q.1,
  )

  quiet_dark : IsQuietFor own devices.darkened
  quiet_dark = record { stays = stays_dark; keeps = λ d a. kept_dark d; rests = λ d a. dark_at_rest d }

  quiet_reset : IsQuietFor own (λ l. devices.woken (devices.darkened l))
  quiet_reset = record { stays = stays_reset; keeps = λ d a. kept_lit (devices.darkened d) ∙ kept_dark d; rests = λ d a. lit_at_rest d }

  module _ (t : Tech) (named : IsNamedIn t own) where
    quiet_step : (f : Signal) → MayAsk (plain_kind t) own f → IsQuietFor own (λ l. stepped_by devices l f None)
    quiet_step f may = record { stays = stays_step f; keeps = λ d a. aside_keeps own t f d may named a; rests = λ d a. step_rests own t f d may a }

    -- all that a device is asked leaves the others what they hold
    record Beside (w x : BenchWorld) : Type 0 where
      pub kept : AllKeepBut own w.listeners x.listeners
      pub beside : AllByRecursion (IsAsideOf own) x.listeners

    by_change : (g : Device → Device) → IsQuietFor own g → (w x : BenchWorld) → AllByRecursion (IsAsideOf own) w.listeners → x.listeners ≡ map g w.listeners → Beside w x
    by_change g q w x b same = record {
      kept = subst (AllKeepBut own w.listeners) (sym same) (but_map g q w.listeners b);
      beside = subst (AllByRecursion (IsAsideOf own)) (sym same) (all_beside g q w.listeners b);
    }

    unchanged : (w : BenchWorld) → AllByRecursion (IsAsideOf own) w.listeners → Beside w w
    unchanged w b = record { kept = but_same w.listeners; beside = b }

    requested_beside : (w : BenchWorld) (f : Signal) (x : Fate) → MayAsk (plain_kind t) own f → AllByRecursion (IsAsideOf own) w.listeners → Beside w (requested devices w f x)
    requested_beside w f Pass may b = by_change (λ l. stepped_by devices l f None) (quiet_step f may) w (requested devices w f Pass) b refl
    requested_beside w f Damage may b = unchanged w b
    requested_beside w f Lose may b = unchanged w b
    requested_beside w f Break may b = by_change devices.darkened quiet_dark w (requested devices w f Break) b refl

    back_beside : (w : BenchWorld) (x : Fate) → AllByRecursion (IsAsideOf own) w.listeners → Beside w (came_back devices w x)
    back_beside w Pass b = unchanged w b
    back_beside w Damage b = unchanged w b
    back_beside w Lose b = unchanged w b
    back_beside w Break b = by_change devices.darkened quiet_dark w (came_back devices w Break) b refl

    then_beside : (w x : BenchWorld) (es : List Event) → Beside w x → AllKeepBut own x.listeners (replay air x es).listeners → AllKeepBut own w.listeners (replay air x es).listeners
    then_beside w x es p q = but_on w.listeners x.listeners (replay air x es).listeners p.kept q

    pub others_keep : (w : BenchWorld) (es : List Event) → AllByRecursion (IsAsideOf own) w.listeners → EachAsked (MayAsk (plain_kind t) own) es
        → AllKeepBut own w.listeners (replay air w es).listeners
    others_keep w [] b h = but_same w.listeners
    others_keep w (Reset ∷ es) b h =
        let p : Beside w (air.happens w Reset) = by_change (λ l. devices.woken (devices.darkened l)) quiet_reset w (air.happens w Reset) b refl in
        then_beside w (air.happens w Reset) es p (others_keep (air.happens w Reset) es p.beside h)
    others_keep w (Request f x ∷ es) b h =
        let p : Beside w (requested devices w f x) = requested_beside w f x h.0 b in
        then_beside w (requested devices w f x) es p (others_keep (requested devices w f x) es p.beside h.1)
    others_keep w (Answer g x ∷ es) b h =
        let p : Beside w (came_back devices w x) = back_beside w x b in
        then_beside w (came_back devices w x) es p (others_keep (came_back devices w x) es p.beside h)
    others_keep w (Clash g x ∷ es) b h =
        let p : Beside w (came_back devices w x) = back_beside w x b in
        then_beside w (came_back devices w x) es p (others_keep (came_back devices w x) es p.beside h)

-- So a command that asks one device what it may be asked leaves the others what they hold, and each image of that one's store is one
-- of its kind: as it is asked, and behind what changed nothing that stays.
pub going_leaves : (own : List ℕ) (t : Tech) (next : List Note → Next) (a b : Moment BenchWorld) (ns : List Note) → IsNamedIn t own → IsSoundOne own a.world.listeners
    → AllByRecursion (IsAsideOf own) a.world.listeners → ((ks : List Note) (f : Signal) → next ks ≡ Asks f → MayAsk (plain_kind t) own f) → (g : Going air next a b ns)
    → LeavesDevices (StoreOf own) a.world g.events b.world
going_leaves own t next a b ns named sound beside may g = (
  subst (λ (m : Moment BenchWorld). AllKeepBut own a.world.listeners m.world.listeners) (sym g.moment)
      (others_keep own t named a.world g.events beside (due_asked (MayAsk (plain_kind t) own) next may [] g.events g.each)),
  images_sound a.world g.events own sound,
)

kept_but : (own : List ℕ) (ds es : List Device) → map kept es ≡ map kept ds → AllKeepBut own ds es
kept_but own [] [] same = tt
kept_but own [] (e ∷ es) same = absurd cc
kept_but own (d ∷ ds) [] same = absurd cc
kept_but own (d ∷ ds) (e ∷ es) same =
    let one : kept e ≡ kept d = cc in
    (record { stays = kept_stays d e one; other = λ n. one }, kept_but own ds es (let rest : map kept es ≡ map kept ds = cc in rest))

pub leaves_behind : (own : List ℕ) (w v u : BenchWorld) (es fs : List Event) → IsSoundOne own w.listeners → LeavesDevices NoStore w es v → LeavesDevices (StoreOf own) v fs u
    → LeavesDevices (StoreOf own) w (es ++ fs) u
leaves_behind own w v u es fs sound first next =
    (but_on own w.listeners v.listeners u.listeners (kept_but own w.listeners v.listeners first) next.0, images_sound w (es ++ fs) own sound)

-- The devices stay tame, whatever may have changed of them.
all_stay_of : (own : List ℕ) (ds es : List Device) → AllKeepBut own ds es → AllStayDevices ds es
all_stay_of own [] [] p = tt
all_stay_of own [] (e ∷ es) p = absurd p
all_stay_of own (d ∷ ds) [] p = absurd p
all_stay_of own (d ∷ ds) (e ∷ es) p = (p.0.stays, all_stay_of own ds es p.1)

as_many : (ds es : List Device) → AllStayDevices ds es → length (map kept es) ≡ length (map kept ds)
as_many [] [] p = refl
as_many [] (e ∷ es) p = absurd p
as_many (d ∷ ds) [] p = absurd p
as_many (d ∷ ds) (e ∷ es) p = ap suc (as_many ds es p.1)

pub left_tame : (what : Changes) (old : BenchWorld) (es : List Event) (new : BenchWorld) → LeavesDevices what old es new → AreTame (map kept old.listeners) → AreTame (map kept new.listeners)
left_tame NoStore old es new same tame = subst AreTame (sym same) tame
left_tame (StoreOf id) old es new left tame =
    let stay = all_stay_of id old.listeners new.listeners left.0 in
    record { sound = sound_stay old.listeners new.listeners stay tame.sound; few = omega (arith, as_many old.listeners new.listeners stay, tame.few) }

-- Where nothing changed that stays, nothing else did either, whatever might have; so it is before what changed it.
abbrev pub IsSoundFor : Changes → List Device → Type 0
IsSoundFor NoStore ds = Unit {0}
IsSoundFor (StoreOf id) ds = IsSoundOne id ds

pub leaves_more : (what : Changes) (w v : BenchWorld) (es : List Event) → IsSoundFor what w.listeners → LeavesDevices NoStore w es v → LeavesDevices what w es v
leaves_more NoStore w v es sound first = first
leaves_more (StoreOf id) w v es sound first = (kept_but id w.listeners v.listeners first, images_sound w es id sound)

pub leaves_then : (what : Changes) (w v u : BenchWorld) (es fs : List Event) → IsSoundFor what w.listeners → LeavesDevices NoStore w es v → LeavesDevices what v fs u
    → LeavesDevices what w (es ++ fs) u
leaves_then NoStore w v u es fs sound first next = next ∙ first
leaves_then (StoreOf id) w v u es fs sound first next = leaves_behind id w v u es fs sound first next
