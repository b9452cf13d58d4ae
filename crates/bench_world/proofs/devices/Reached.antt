-- What holds wherever the lines of a script lead: each device may be placed, with an identifier of its own, has no link unless it is
-- active, and a container of bytes.
use Rattle.std.proofs.Common.{◌≡◌, inl, inr, ℕ, suc, ◌+◌, ◌*◌, ◌<◌, ◌≤◌, List, [], ◌∷◌, ◌++◌, map, length, ◌%◌, zero, Bool, true, false, nat_eq, if◌then◌else◌, refl, sym, ◌∙◌, ap, subst, arith}
use Rattle.std.specs.List.{AllByRecursion, range_with_len}
use Rattle.std.specs.Cmp.Lexicographic.{pointwise}
use Rattle.std.proofs.lemmas.List.{length-map}
use Rattle.hex.proofs.HexLemmas.{decode_of-ok}
use Rattle.air_core.specs.Conversation.{replay}
use Rattle.nfc_base.specs.Pieces.{most_busy, longest_extension}
use Rattle.isodep_link.proofs.Heeding.{AreBytes, no_bytes}
use Rattle.t4t_tag.specs.Store.{file_size}
use Rattle.bench_script.specs.declared.command.Command.{Command}
use Rattle.bench_script.specs.declared.command.Command.TheVariants.{Skip, Fates, PlaceT2, PlaceT3, PlaceT4, PlaceT5, PlacePeer, Lock, Busy, Offer, Remove, Dump, Inbox, Find, Crowd, Poll3, Read, Read3}
use Rattle.bench_script.specs.declared.command.Command.TheVariants.{Write, Write3, Link, Forge, Raw, Put, Get, Lookup, OnPut, OnGet, Puts, Unlink}
use Rattle.bench_script.specs.declared.message.Msg.{Msg}
use Rattle.bench_script.specs.declared.message.Msg.TheVariants.{Hex, Gen}
use Rattle.bench_script.specs.DeviceIds.{bytes_of}
use Rattle.bench_script.specs.Messages.{message_of}
use Rattle.bench_script.specs.Script.{Spells, SpellsHex, SpellsMsg, is_skipped}
use Rattle.bench_devices.specs.declared.device.Device.{Device}
use Rattle.bench_devices.specs.declared.device.Device.TheVariants.{T2, T4, Peer, T5, T3}
use Rattle.bench_devices.specs.Device.{most_devices, device_id, new_t2, new_t3, new_t4, new_t5, new_peer, device_locked, device_busy}
use Rattle.bench_devices.specs.Keeping.{Fixed, kept, container_of, IsSound, IsApart, AreSound, AreTame, AllStayDevices}
use Rattle.bench_devices.specs.Phases.{IsTidy, AreTidy}
use Rattle.bench_devices.specs.Placed.{without, with_changed}
use Rattle.bench_devices.proofs.turns.CardBytes.{cons_bytes}
use Rattle.bench_devices.proofs.kinds.PeerMade.{busy_made}
use Rattle.bench_world.specs.declared.entry.Entry.{Entry}
use Rattle.bench_world.specs.Journal.{NumberedLine, AreEntriesOf, asking_lines}
use Rattle.bench_world.specs.Legal.{State, Given, Accepts, IsFree, LegalStep, EachLegal, changed, world_at_start, first_state, memory_of}
use Rattle.bench_world.specs.QuietHearing.{AllAlong}
use Rattle.bench_world.specs.World.{WholeWorld, bench_air}
use Rattle.bench_world.proofs.devices.FarStays.{StayAll, far_stay}
use Rattle.bench_world.proofs.devices.Placed.{apart_all}
use Rattle.bench_world.proofs.devices.Placing.{map-over, tame_more, tidy_more, none_named}

abbrev pub IsReadable : Device → Type 0
IsReadable d = AreBytes (container_of d)

pub record IsReady (ds : List Device) : Type 0 where
  pub tame : AreTame (map kept ds)
  pub tidy : AreTidy ds
  pub readable : AllByRecursion IsReadable ds

-- A device that is changed so may be placed still, and has the same identifier and container.
record StaysReady (d e : Device) : Type 0 where
  pub same_id : device_id e ≡ device_id d
  pub container : container_of e ≡ container_of d
  pub sound : IsSound (kept d) → IsSound (kept e)

abbrev AllReady : List Device → List Device → Type 0
AllReady [] [] = Unit {0}
AllReady (d ∷ ds) (e ∷ es) = StaysReady d e × AllReady ds es
AllReady [] (e ∷ es) = ⊥
AllReady (d ∷ ds) [] = ⊥

all_same : (ds : List Device) → AllReady ds ds
all_same [] = tt
all_same (d ∷ ds) = (record { same_id = refl; container = refl; sound = λ s. s }, all_same ds)

all_changed : (g : Device → Device) → ((d : Device) → StaysReady d (g d)) → (id : List ℕ) (ds : List Device) → AllReady ds (with_changed g id ds)
all_changed g stays id [] = tt
all_changed g stays id (d ∷ ds) = by_name (pointwise nat_eq (device_id d) id) (all_changed g stays id ds)
  where
    by_name : (v : Bool) → AllReady ds (with_changed g id ds) → AllReady (d ∷ ds) (if v then g d ∷ ds else d ∷ with_changed g id ds)
    by_name true more = (stays d, all_same ds)
    by_name false more = (record { same_id = refl; container = refl; sound = λ s. s }, more)

all_stayed : (ds es : List Device) → AllStayDevices ds es → AllReady ds es
all_stayed [] [] p = tt
all_stayed [] (e ∷ es) p = absurd p
all_stayed (d ∷ ds) [] p = absurd p
all_stayed (d ∷ ds) (e ∷ es) p = (record { same_id = ap (λ (x : Fixed). x.id) p.0.fixed; container = ap (λ (x : Fixed). x.container) p.0.fixed; sound = p.0.sound }, all_stayed ds es p.1)

apart_too : (d e : Device) → device_id e ≡ device_id d → (ds es : List Device) → AllReady ds es → AllByRecursion (IsApart (kept d)) (map kept ds) → AllByRecursion (IsApart (kept e)) (map kept es)
apart_too d e same [] [] p h = tt
apart_too d e same [] (y ∷ ys) p h = absurd p
apart_too d e same (x ∷ xs) [] p h = absurd p
apart_too d e same (x ∷ xs) (y ∷ ys) p h = ((λ q. h.0 (sym p.0.same_id ∙ q ∙ same)), apart_too d e same xs ys p.1 h.1)

sound_too : (ds es : List Device) → AllReady ds es → AreSound (map kept ds) → AreSound (map kept es)
sound_too [] [] p s = tt
sound_too [] (e ∷ es) p s = absurd p
sound_too (d ∷ ds) [] p s = absurd p
sound_too (d ∷ ds) (e ∷ es) p s = (p.0.sound s.0, apart_too d e p.0.same_id ds es p.1 s.1, sound_too ds es p.1 s.2)

as_many : (ds es : List Device) → AllReady ds es → length (map kept es) ≡ length (map kept ds)
as_many [] [] p = refl
as_many [] (e ∷ es) p = absurd p
as_many (d ∷ ds) [] p = absurd p
as_many (d ∷ ds) (e ∷ es) p = ap suc (as_many ds es p.1)

readable_too : (ds es : List Device) → AllReady ds es → AllByRecursion IsReadable ds → AllByRecursion IsReadable es
readable_too [] [] p h = tt
readable_too [] (e ∷ es) p h = absurd p
readable_too (d ∷ ds) [] p h = absurd p
readable_too (d ∷ ds) (e ∷ es) p h = (subst AreBytes (sym p.0.container) h.0, readable_too ds es p.1 h.1)

ready_too : (ds es : List Device) → AllReady ds es → AreTidy es → IsReady ds → IsReady es
ready_too ds es p tidy r = record {
  tame = record { sound = sound_too ds es p r.tame.sound; few = (let same = as_many ds es p in omega (arith, same, r.tame.few)) };
  tidy = tidy;
  readable = readable_too ds es p r.readable;
}

-- a block is locked, and a tag asks for more time
tidy_changed : (g : Device → Device) → ((d : Device) → IsTidy d → IsTidy (g d)) → (id : List ℕ) (ds : List Device) → AreTidy ds → AreTidy (with_changed g id ds)
tidy_changed g stays id [] t = tt
tidy_changed g stays id (d ∷ ds) t = by_name (pointwise nat_eq (device_id d) id) (tidy_changed g stays id ds t.1)
  where
    by_name : (v : Bool) → AreTidy (with_changed g id ds) → AreTidy (if v then g d ∷ ds else d ∷ with_changed g id ds)
    by_name true more = (stays d t.0, t.1)
    by_name false more = (t.0, more)

locked_stays : (block : ℕ) (d : Device) → StaysReady d (device_locked block d)
locked_stays block (T2 d) = record { same_id = refl; container = refl; sound = λ s. s }
locked_stays block (T4 d) = record { same_id = refl; container = refl; sound = λ s. s }
locked_stays block (Peer d) = record { same_id = refl; container = refl; sound = λ s. s }
locked_stays block (T5 p) = record { same_id = refl; container = refl; sound = λ s. s }
locked_stays block (T3 p) = record { same_id = refl; container = refl; sound = λ s. s }

locked_tidy : (block : ℕ) (d : Device) → IsTidy d → IsTidy (device_locked block d)
locked_tidy block (T2 d) t = t
locked_tidy block (T4 d) t = t
locked_tidy block (Peer d) t = t
locked_tidy block (T5 p) t = t
locked_tidy block (T3 p) t = t

busy_stays : (count times : ℕ) → count ≤ most_busy → (1 ≤ times) × (times ≤ longest_extension) → (d : Device) → StaysReady d (device_busy count times d)
busy_stays count times few long (T2 d) = record { same_id = refl; container = refl; sound = λ s. s }
busy_stays count times few long (T4 d) = record { same_id = refl; container = refl; sound = λ s. (s.0, s.1, s.2, s.3, s.4, record { made = refl; busy = few; times = long }) }
busy_stays count times few long (Peer d) = record { same_id = refl; container = refl; sound = λ s. (s.0, s.1, busy_made d.id d.upper count times few long s.2) }
busy_stays count times few long (T5 p) = record { same_id = refl; container = refl; sound = λ s. s }
busy_stays count times few long (T3 p) = record { same_id = refl; container = refl; sound = λ s. s }

busy_tidy : (count times : ℕ) (d : Device) → IsTidy d → IsTidy (device_busy count times d)
busy_tidy count times (T2 d) t = t
busy_tidy count times (T4 d) t = t
busy_tidy count times (Peer d) t = t
busy_tidy count times (T5 p) t = t
busy_tidy count times (T3 p) t = t

-- a device is taken away
rest_of : {X : Type 0} (g : Device → X) (P : X → Type 0) (id : List ℕ) (ds : List Device) → AllByRecursion P (map g ds) → AllByRecursion P (map g (without id ds))
rest_of g P id [] h = tt
rest_of g P id (d ∷ ds) h = by_name (pointwise nat_eq (device_id d) id) (rest_of g P id ds h.1)
  where
    by_name : (v : Bool) → AllByRecursion P (map g (without id ds)) → AllByRecursion P (map g (if v then ds else d ∷ without id ds))
    by_name true more = h.1
    by_name false more = (h.0, more)

sound_without : (id : List ℕ) (ds : List Device) → AreSound (map kept ds) → AreSound (map kept (without id ds))
sound_without id [] s = tt
sound_without id (d ∷ ds) s = by_name (pointwise nat_eq (device_id d) id) (sound_without id ds s.2)
  where
    by_name : (v : Bool) → AreSound (map kept (without id ds)) → AreSound (map kept (if v then ds else d ∷ without id ds))
    by_name true more = s.2
    by_name false more = (s.0, rest_of kept (IsApart (kept d)) id ds s.1, more)

fewer : (id : List ℕ) (ds : List Device) → length (map kept (without id ds)) ≤ length (map kept ds)
fewer id [] = omega arith
fewer id (d ∷ ds) = by_name (pointwise nat_eq (device_id d) id) (fewer id ds)
  where
    by_name : (v : Bool) → length (map kept (without id ds)) ≤ length (map kept ds) → length (map kept (if v then ds else d ∷ without id ds)) ≤ length (map kept (d ∷ ds))
    by_name true more = omega arith
    by_name false more = omega (arith, more)

all_without : (P : Device → Type 0) (id : List ℕ) (ds : List Device) → AllByRecursion P ds → AllByRecursion P (without id ds)
all_without P id [] h = tt
all_without P id (d ∷ ds) h = by_name (pointwise nat_eq (device_id d) id) (all_without P id ds h.1)
  where
    by_name : (v : Bool) → AllByRecursion P (without id ds) → AllByRecursion P (if v then ds else d ∷ without id ds)
    by_name true more = h.1
    by_name false more = (h.0, more)

ready_without : (id : List ℕ) (ds : List Device) → IsReady ds → IsReady (without id ds)
ready_without id ds r = record {
  tame = record { sound = sound_without id ds r.tame.sound; few = (let less = fewer id ds in omega (arith, less, r.tame.few)) };
  tidy = all_without IsTidy id ds r.tidy;
  readable = all_without IsReadable id ds r.readable;
}

-- a device is placed
readable_more : (ds : List Device) (d : Device) → AllByRecursion IsReadable ds → IsReadable d → AllByRecursion IsReadable (ds ++ d ∷ [])
readable_more [] d h own = (own, tt)
readable_more (x ∷ ds) d h own = (h.0, readable_more ds d h.1 own)

ready_more : (s : State) (d : Device) → IsSound (kept d) → IsTidy d → IsReadable d → IsFree s (device_id d) → IsReady s.world.field.listeners → IsReady (s.world.field.listeners ++ d ∷ [])
ready_more s d sound tidy readable free r =
    let ls : List Device = s.world.field.listeners in
    let apart : AllByRecursion (λ l. IsApart l (kept d)) (map kept ls) = apart_all ls d (none_named ls (device_id d) free.fresh) in
    let room : length (map kept ls) < most_devices = omega (arith, length-map ls kept, free.room) in
    record {
      tame = subst AreTame (sym (map-over kept ls (d ∷ []))) (tame_more (map kept ls) (kept d) r.tame sound apart room);
      tidy = tidy_more ls d r.tidy tidy;
      readable = readable_more ls d r.readable readable;
    }

-- digits spell bytes
hex_bytes : (word bytes : List ℕ) → SpellsHex word bytes → AreBytes bytes
hex_bytes word bytes (inl none) = subst AreBytes (sym none.1) no_bytes
hex_bytes word bytes (inr some) = (decode_of-ok word bytes some.1).3

-- a message of a line has bytes
counted_bytes : (start a n : ℕ) → AreBytes (map (λ i. (start + i) % 256) (range_with_len a n))
counted_bytes start a zero = no_bytes
counted_bytes start a (suc n) = cons_bytes ((start + a) % 256) (map (λ i. (start + i) % 256) (range_with_len (a + 1) n)) (omega arith) (counted_bytes start (a + 1) n)

pub message_bytes : (word : List ℕ) (m : Msg) → SpellsMsg word m → AreBytes (message_of m)
message_bytes word (Hex bytes) sp = hex_bytes word bytes sp
message_bytes word (Gen count start) sp = counted_bytes start 0 count

-- What a line's command changes leaves the devices so.
ready_changed : (s : State) (line : List ℕ) (c : Command) → Spells line c → Accepts s c → IsReady s.world.field.listeners → IsReady (changed s c).world.field.listeners
ready_changed s line Skip sp is r = r
ready_changed s line (Fates fates) sp is r = r
ready_changed s line (PlaceT2 id blocks head) sp is r = ready_more s (new_t2 id (memory_of (4 * blocks) head)) (sp.4.1, refl, is.store) tt no_bytes is.free r
ready_changed s line (PlaceT3 id blocks head) sp is r =
    ready_more s (new_t3 id (memory_of (16 * blocks) head)) (sp.4.1, (decode_of-ok sp.0 id sp.4.0).3, is.store.blocks) tt no_bytes is.free r
ready_changed s line (PlaceT4 id code container head) sp is r =
    let file : List ℕ = memory_of (file_size container) head in
    ready_more s (new_t4 id code container file)
    (sp.5.1, file, refl, is.store, refl, record { made = refl; busy = omega arith; times = (omega arith, omega arith) }) (inr refl) (hex_bytes sp.2 container sp.7) is.free r
ready_changed s line (PlaceT5 id blocks size head) sp is r =
    ready_more s (new_t5 id size (memory_of (size * blocks) head)) (refl, sp.5.1, (decode_of-ok sp.0 id sp.5.0).3, is.store) tt no_bytes is.free r
ready_changed s line (PlacePeer id lr miu rw limit) sp is r =
    ready_more s (new_peer id lr miu)
    (sp.6.1, refl, record { lr = lr; miu = miu; code = is.code; size = is.size; few = omega arith; some = omega arith; longest = omega arith; made = refl }) (inr refl) no_bytes is.free r
ready_changed s line (Lock id block) sp is r =
    ready_too s.world.field.listeners (with_changed (device_locked block) (bytes_of id) s.world.field.listeners)
    (all_changed (device_locked block) (locked_stays block) (bytes_of id) s.world.field.listeners)
    (tidy_changed (device_locked block) (locked_tidy block) (bytes_of id) s.world.field.listeners r.tidy) r
ready_changed s line (Busy id count times) sp is r =
    ready_too s.world.field.listeners (with_changed (device_busy count times) (bytes_of id) s.world.field.listeners)
    (all_changed (device_busy count times) (busy_stays count times is.few is.long) (bytes_of id) s.world.field.listeners)
    (tidy_changed (device_busy count times) (busy_tidy count times) (bytes_of id) s.world.field.listeners r.tidy) r
ready_changed s line (Offer id key value) sp is r = r
ready_changed s line (Remove id) sp is r = ready_without (bytes_of id) s.world.field.listeners r
ready_changed s line (Dump id) sp is r = r
ready_changed s line (Inbox id) sp is r = r
ready_changed s line Find sp is r = r
ready_changed s line Crowd sp is r = r
ready_changed s line Poll3 sp is r = r
ready_changed s line (Read id) sp is r = r
ready_changed s line (Read3 id) sp is r = r
ready_changed s line (Write3 id m) sp is r = r
ready_changed s line (Write id m) sp is r = r
ready_changed s line (Link id miu window) sp is r = r
ready_changed s line (Forge id payloads) sp is r = r
ready_changed s line (Raw id frames) sp is r = r
ready_changed s line (OnPut slot m) sp is r = r
ready_changed s line (OnGet slot most key) sp is r = r
ready_changed s line (Puts puts) sp is r = r
ready_changed s line (Put m) sp is r = r
ready_changed s line (Get most key) sp is r = r
ready_changed s line (Lookup name) sp is r = r
ready_changed s line Unlink sp is r = r

-- So does a step.
pub ready_step : (s t : State) (g : Given) (line : List ℕ) (e : Entry) → Spells line e.command → LegalStep s g e t → IsReady s.world.field.listeners → IsReady t.world.field.listeners
ready_step s t g line e sp step r =
    let w : WholeWorld = world_at_start s g.joins e.command in
    let here : IsReady w.field.listeners = ready_changed s line e.command sp step.front.accepted r in
    let now : List Device = (replay bench_air w e.events).field.listeners in
    let stays : StayAll w.field.listeners now = far_stay e.events w in
    let there : IsReady now = ready_too w.field.listeners now (all_stayed w.field.listeners now stays.stay) (stays.tidy here.tidy) here in
    subst (λ (x : State). IsReady x.world.field.listeners) (sym step.front.after) there

-- So it is wherever entries lead.
pub ready_behind : (ls : List NumberedLine) (s t : State) (gs : List Given) (js : List Entry) → IsReady s.world.field.listeners → AreEntriesOf ls js → EachLegal s gs js t
    → IsReady t.world.field.listeners
ready_behind ls s t [] [] r of steps = subst (λ (x : State). IsReady x.world.field.listeners) (sym steps) r
ready_behind ls s t (g ∷ gs) [] r of steps = absurd steps
ready_behind ls s t [] (e ∷ js) r of steps = absurd steps
ready_behind [] s t (g ∷ gs) (e ∷ js) r of steps = absurd of
ready_behind (l ∷ ls) s t (g ∷ gs) (e ∷ js) r of steps = ready_behind ls steps.0 t gs js (ready_step s steps.0 g l.text e of.1 steps.1 r) of.2 steps.2

-- What holds at first, and is kept by each step of a line that is so, holds all along a journal.
pub along : (I : State → Type 0) (L : List ℕ → Type 0) (P : State → Entry → State → Type 0)
    → ((s t : State) (g : Given) (line : List ℕ) (e : Entry) → I s → L line → Spells line e.command → LegalStep s g e t → P s e t × I t)
    → (ls : List NumberedLine) (s t : State) (gs : List Given) (js : List Entry) → I s → AllByRecursion (λ (l : NumberedLine). L l.text) ls → AreEntriesOf ls js → EachLegal s gs js t
    → AllAlong P s (map (λ (g : Given). g.joins) gs) js
along I L P step ls s t gs [] i all of steps = tt
along I L P step [] s t gs (e ∷ js) i all of steps = absurd of
along I L P step (l ∷ ls) s t [] (e ∷ js) i all of steps = absurd steps
along I L P step (l ∷ ls) s t (g ∷ gs) (e ∷ js) i all of steps =
    let one = step s steps.0 g l.text e i all.0 of.1 steps.1 in
    subst (λ x. P s e x × AllAlong P x (map (λ (h : Given). h.joins) gs) js) steps.1.front.after (one.0, along I L P step ls steps.0 t gs js one.1 all.1 of.2 steps.2)

-- what holds of each line holds of each that asks for something
pub asking_all : (L : List ℕ → Type 0) (n : ℕ) (lines : List (List ℕ)) → AllByRecursion L lines → AllByRecursion (λ (l : NumberedLine). L l.text) (asking_lines n lines)
asking_all L n [] h = tt
asking_all L n (l ∷ ls) h = by_skip (is_skipped l) (asking_all L (n + 1) ls h.1)
  where
    by_skip : (v : Bool) → AllByRecursion (λ (x : NumberedLine). L x.text) (asking_lines (n + 1) ls)
        → AllByRecursion (λ (x : NumberedLine). L x.text) (if v then asking_lines (n + 1) ls else record { number = n; text = l } ∷ asking_lines (n + 1) ls)
    by_skip true more = more
    by_skip false more = (h.0, more)

pub first_ready : IsReady first_state.world.field.listeners
first_ready = record { tame = record { sound = tt; few = omega arith }; tidy = tt; readable = tt }
