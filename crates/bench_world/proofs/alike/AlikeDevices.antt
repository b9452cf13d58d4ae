-- What a law reads of a device is the same of it in the dark. So two devices that the dark leaves the same are one to every law.
use Rattle.std.proofs.Common.{◌≡◌, ℕ, List, [], ◌∷◌, map, length, Bool, true, false, nat_eq, if◌then◌else◌, Option, Some, None, refl, sym, ◌∙◌, ap, subst}
use Rattle.std.specs.Prelude.{option_map, ◌||◌}
use Rattle.std.specs.Cmp.Lexicographic.{pointwise}
use Rattle.std.specs.List.{AllByRecursion, filter_map, cons_option, list_any}
use Rattle.nfca_poll.specs.Crowd.{crowd, put_by}
use Rattle.nfca_poll.specs.declared.kind.Kind.TheVariants as kinds
use Rattle.nfca_poll.specs.Front.{Front, Off, Idle, Sleep, Ready, Active}
use Rattle.nfca_poll.specs.Fronted.{left_at}
use Rattle.t2t_tag.specs.Store.{T2Memory, locked_too}
use Rattle.tag_reader.specs.Kinds.{t2_step}
use Rattle.tag_reader.specs.Files.{t4_link_step}
use Rattle.isodep_link.specs.Card.{made_busy}
use Rattle.bench_devices.specs.declared.device.Device.{Device}
use Rattle.bench_devices.specs.declared.device.Device.TheVariants.{T2, T4, Peer, T5, T3}
use Rattle.bench_devices.specs.Cards.{T4Near}
use Rattle.bench_devices.specs.Crowded.{card_if, v_if}
use Rattle.bench_devices.specs.Device.{t2_machine, t4_machine, device_darkened, device_id, device_tech, device_commands, device_locked, device_busy, is_tag, memory_in}
use Rattle.bench_devices.specs.Keeping.{Kept, kept, IsSound, KeepsBut, AllKeepBut}
use Rattle.bench_devices.specs.Placed.{device_with, without, with_changed, OfPlaced, IfPlaced}
use Rattle.bench_devices.specs.Sensing.{f_if, is_three}
use Rattle.bench_devices.proofs.finding.SelectingCards.{carded, near}
use Rattle.bench_devices.proofs.finding.SelectingKept.{kept_dark}

-- the front of a Type 2 tag going off leaves its memory, and that of a Type 4 tag all that is no link
pub left_two : (front : Front) (u : T2Memory) → left_at t2_machine front Off u ≡ u
left_two Off u = refl
left_two Idle u = refl
left_two Sleep u = refl
left_two (Ready k starred) u = refl
left_two (Active starred) u = refl

left_code : (front : Front) (u : T4Near) → (left_at t4_machine front Off u).tag.code ≡ u.tag.code
left_code Off u = refl
left_code Idle u = refl
left_code Sleep u = refl
left_code (Ready k starred) u = refl
left_code (Active starred) u = refl

left_file : (front : Front) (u : T4Near) → (left_at t4_machine front Off u).tag.file ≡ u.tag.file
left_file Off u = refl
left_file Idle u = refl
left_file Sleep u = refl
left_file (Ready k starred) u = refl
left_file (Active starred) u = refl

near_busy : ℕ → ℕ → T4Near → T4Near
near_busy count times u = record { tag = u.tag; card = made_busy u.card count times; linked = u.linked }

left_busy : (count times : ℕ) (front : Front) (u : T4Near) → left_at t4_machine front Off (near_busy count times u) ≡ near_busy count times (left_at t4_machine front Off u)
unfolding near_busy
left_busy count times Off u = refl
left_busy count times Idle u = refl
left_busy count times Sleep u = refl
left_busy count times (Ready k starred) u = refl
left_busy count times (Active starred) u = refl

-- So what names a device, its technology, its step on commands and what a dump of it shows stay in the dark, ...
pub id_dark : (d : Device) → device_id (device_darkened d) ≡ device_id d
id_dark (T2 d) = refl
id_dark (T4 d) = refl
id_dark (Peer d) = refl
id_dark (T5 p) = refl
id_dark (T3 p) = refl

tech_dark : (d : Device) → device_tech (device_darkened d) ≡ device_tech d
tech_dark (T2 d) = refl
tech_dark (T4 d) = refl
tech_dark (Peer d) = refl
tech_dark (T5 p) = refl
tech_dark (T3 p) = refl

commands_dark : (d : Device) → device_commands (device_darkened d) ≡ device_commands d
commands_dark (T2 d) = ap (λ (u : T2Memory). t2_step u.locked) (left_two d.front d.upper)
commands_dark (T4 d) = ap t4_link_step (left_code d.front d.upper)
commands_dark (Peer d) = refl
commands_dark (T5 p) = refl
commands_dark (T3 p) = refl

memory_dark : (d : Device) → memory_in (device_darkened d) ≡ memory_in d
memory_dark (T2 d) = ap (λ (u : T2Memory). u.store) (left_two d.front d.upper)
memory_dark (T4 d) = left_file d.front d.upper
memory_dark (Peer d) = refl
memory_dark (T5 p) = refl
memory_dark (T3 p) = refl

tag_dark : (d : Device) → is_tag (device_darkened d) ≡ is_tag d
tag_dark (T2 d) = refl
tag_dark (T4 d) = refl
tag_dark (Peer d) = refl
tag_dark (T5 p) = refl
tag_dark (T3 p) = refl

-- ... and what locks a block, or has the device ask for more time, does the same in the dark.
pub locked_dark : (block : ℕ) (d : Device) → device_darkened (device_locked block d) ≡ device_locked block (device_darkened d)
locked_dark block (T2 d) =
    ap (λ u. T2 (carded d.id Off u)) (left_two d.front (locked_too d.upper block) ∙ ap (λ u. locked_too u block) (sym (left_two d.front d.upper)))
locked_dark block (T4 d) = refl
locked_dark block (Peer d) = refl
locked_dark block (T5 p) = refl
locked_dark block (T3 p) = refl

pub busy_dark : (count times : ℕ) (d : Device) → device_darkened (device_busy count times d) ≡ device_busy count times (device_darkened d)
unfolding near_busy
busy_dark count times (T2 d) = refl
busy_dark count times (T4 d) = ap (λ u. T4 (near d.id Off u)) (left_busy count times d.front d.upper)
busy_dark count times (Peer d) = refl
busy_dark count times (T5 p) = refl
busy_dark count times (T3 p) = refl

-- Two devices are the same in the dark: all that is read of one is read of the other.
abbrev pub SameDevice : Device → Device → Type 0
SameDevice d e = device_darkened d ≡ device_darkened e

module _ (d e : Device) (same : SameDevice d e) where
  by_dark : {X : Type 0} (f : Device → X) → ((x : Device) → f (device_darkened x) ≡ f x) → f d ≡ f e
  by_dark f stays = sym (stays d) ∙ ap f same ∙ stays e

  pub same_kept : kept d ≡ kept e
  same_kept = by_dark kept kept_dark

  pub same_commands : device_commands d ≡ device_commands e
  same_commands = by_dark device_commands commands_dark

  pub same_memory : memory_in d ≡ memory_in e
  same_memory = by_dark memory_in memory_dark

  pub same_tag : is_tag d ≡ is_tag e
  same_tag = by_dark is_tag tag_dark

  pub same_tech : device_tech d ≡ device_tech e
  same_tech = by_dark device_tech tech_dark

-- The device with an identifier in the dark is the one with it, in the dark; ...
pub with_dark : (id : List ℕ) (ds : List Device) → device_with id (map device_darkened ds) ≡ option_map device_darkened (device_with id ds)
with_dark id [] = refl
with_dark id (d ∷ ds) =
    ap (λ i. if pointwise nat_eq i id then Some (device_darkened d) else device_with id (map device_darkened ds)) (id_dark d)
    ∙ by_name (pointwise nat_eq (device_id d) id) (with_dark id ds)
  where
    by_name : (v : Bool) → device_with id (map device_darkened ds) ≡ option_map device_darkened (device_with id ds)
        → (if v then Some (device_darkened d) else device_with id (map device_darkened ds)) ≡ option_map device_darkened (if v then Some d else device_with id ds)
    by_name true more = refl
    by_name false more = more

-- ... likewise the others where it is taken away, or changed so that the dark leaves the same.
pub removed_dark : (id : List ℕ) (ds : List Device) → map device_darkened (without id ds) ≡ without id (map device_darkened ds)
removed_dark id [] = refl
removed_dark id (d ∷ ds) =
    by_name (pointwise nat_eq (device_id d) id) (removed_dark id ds)
    ∙ ap (λ i. if pointwise nat_eq i id then map device_darkened ds else device_darkened d ∷ without id (map device_darkened ds)) (sym (id_dark d))
  where
    by_name : (v : Bool) → map device_darkened (without id ds) ≡ without id (map device_darkened ds)
        → map device_darkened (if v then ds else d ∷ without id ds) ≡ (if v then map device_darkened ds else device_darkened d ∷ without id (map device_darkened ds))
    by_name true more = refl
    by_name false more = ap (λ xs. device_darkened d ∷ xs) more

pub changed_dark : (g : Device → Device) → ((d : Device) → device_darkened (g d) ≡ g (device_darkened d)) → (id : List ℕ) (ds : List Device)
    → map device_darkened (with_changed g id ds) ≡ with_changed g id (map device_darkened ds)
changed_dark g stays id [] = refl
changed_dark g stays id (d ∷ ds) =
    by_name (pointwise nat_eq (device_id d) id) (changed_dark g stays id ds)
    ∙ ap (λ i. if pointwise nat_eq i id then g (device_darkened d) ∷ map device_darkened ds else device_darkened d ∷ with_changed g id (map device_darkened ds)) (sym (id_dark d))
  where
    by_name : (v : Bool) → map device_darkened (with_changed g id ds) ≡ with_changed g id (map device_darkened ds)
        → map device_darkened (if v then g d ∷ ds else d ∷ with_changed g id ds)
        ≡ (if v then g (device_darkened d) ∷ map device_darkened ds else device_darkened d ∷ with_changed g id (map device_darkened ds))
    by_name true more = ap (λ x. x ∷ map device_darkened ds) (stays d)
    by_name false more = ap (λ xs. device_darkened d ∷ xs) more

-- What is read of each device is the same in the dark.
pub all_dark : {X : Type 0} (f : Device → X) → ((d : Device) → f (device_darkened d) ≡ f d) → (ds : List Device) → map f (map device_darkened ds) ≡ map f ds
all_dark f stays [] = refl
all_dark f stays (d ∷ ds) = ap (λ x. x ∷ map f (map device_darkened ds)) (stays d) ∙ ap (λ xs. f d ∷ xs) (all_dark f stays ds)

some_dark : {X : Type 0} (f : Device → Option X) → ((d : Device) → f (device_darkened d) ≡ f d) → (ds : List Device) → filter_map f (map device_darkened ds) ≡ filter_map f ds
some_dark f stays [] = refl
some_dark f stays (d ∷ ds) = ap (λ x. cons_option x (filter_map f (map device_darkened ds))) (stays d) ∙ ap (cons_option (f d)) (some_dark f stays ds)

v_dark : (d : Device) → v_if (device_darkened d) ≡ v_if d
v_dark (T2 d) = refl
v_dark (T4 d) = refl
v_dark (Peer d) = refl
v_dark (T5 p) = refl
v_dark (T3 p) = refl

f_dark : (d : Device) → f_if (device_darkened d) ≡ f_if d
f_dark (T2 d) = refl
f_dark (T4 d) = refl
f_dark (Peer d) = refl
f_dark (T5 p) = refl
f_dark (T3 p) = refl

three_dark : (id : List ℕ) (d : Device) → is_three id (device_darkened d) ≡ is_three id d
three_dark id (T2 d) = refl
three_dark id (T4 d) = refl
three_dark id (Peer d) = refl
three_dark id (T5 p) = refl
three_dark id (T3 p) = refl

threes_dark : (id : List ℕ) (ds : List Device) → list_any (is_three id) (map device_darkened ds) ≡ list_any (is_three id) ds
threes_dark id [] = refl
threes_dark id (d ∷ ds) = ap (λ v. v || list_any (is_three id) (map device_darkened ds)) (three_dark id d) ∙ ap (λ v. is_three id d || v) (threes_dark id ds)

crowd_dark : (ds : List Device) → crowd (filter_map card_if (map device_darkened ds)) ≡ crowd (filter_map card_if ds)
crowd_dark [] = refl
crowd_dark (T2 d ∷ ds) = ap (put_by (record { id = d.id; kind = kinds.T2 })) (crowd_dark ds)
crowd_dark (T4 d ∷ ds) = ap (put_by (record { id = d.id; kind = kinds.T4 })) (crowd_dark ds)
crowd_dark (Peer d ∷ ds) = ap (put_by (record { id = d.id; kind = kinds.Peer })) (crowd_dark ds)
crowd_dark (T5 p ∷ ds) = crowd_dark ds
crowd_dark (T3 p ∷ ds) = crowd_dark ds

-- Lists of devices that the dark leaves the same.
abbrev pub SameDevices : List Device → List Device → Type 0
SameDevices ds es = map device_darkened ds ≡ map device_darkened es

module _ (ds es : List Device) (same : SameDevices ds es) where
  pub same_each : {X : Type 0} (f : Device → X) → ((d : Device) → f (device_darkened d) ≡ f d) → map f ds ≡ map f es
  same_each f stays = sym (all_dark f stays ds) ∙ ap (map f) same ∙ all_dark f stays es

  pub same_crowd : crowd (filter_map card_if ds) ≡ crowd (filter_map card_if es)
  same_crowd = sym (crowd_dark ds) ∙ ap (λ xs. crowd (filter_map card_if xs)) same ∙ crowd_dark es

  pub same_vs : filter_map v_if ds ≡ filter_map v_if es
  same_vs = sym (some_dark v_if v_dark ds) ∙ ap (filter_map v_if) same ∙ some_dark v_if v_dark es

  pub same_fs : filter_map f_if ds ≡ filter_map f_if es
  same_fs = sym (some_dark f_if f_dark ds) ∙ ap (filter_map f_if) same ∙ some_dark f_if f_dark es

  pub same_threes : (id : List ℕ) → list_any (is_three id) ds ≡ list_any (is_three id) es
  same_threes id = sym (threes_dark id ds) ∙ ap (list_any (is_three id)) same ∙ threes_dark id es

  pub same_with : (id : List ℕ) → option_map device_darkened (device_with id ds) ≡ option_map device_darkened (device_with id es)
  same_with id = sym (with_dark id ds) ∙ ap (device_with id) same ∙ with_dark id es

  pub same_removed : (id : List ℕ) → SameDevices (without id ds) (without id es)
  same_removed id = removed_dark id ds ∙ ap (without id) same ∙ sym (removed_dark id es)

  pub same_changed : (g : Device → Device) → ((d : Device) → device_darkened (g d) ≡ g (device_darkened d)) → (id : List ℕ) → SameDevices (with_changed g id ds) (with_changed g id es)
  same_changed g stays id = changed_dark g stays id ds ∙ ap (with_changed g id) same ∙ sym (changed_dark g stays id es)

-- What holds of the device with an identifier.
pub of_same : (P : Device → Type 0) → ((d e : Device) → SameDevice d e → P d → P e) → (o p : Option Device) → option_map device_darkened o ≡ option_map device_darkened p → OfPlaced P o → OfPlaced P p
of_same P says None p same is = absurd is
of_same P says (Some d) None same is = absurd cc
of_same P says (Some d) (Some e) same is = let one : SameDevice d e = cc in says d e one is

pub if_same : (P Q : Device → Type 0) (R : Type 0) → ((d e : Device) → SameDevice d e → P d → Q e) → (o p : Option Device) → option_map device_darkened o ≡ option_map device_darkened p
    → IfPlaced P R o → IfPlaced Q R p
if_same P Q R says None None same is = is
if_same P Q R says None (Some e) same is = absurd cc
if_same P Q R says (Some d) None same is = absurd cc
if_same P Q R says (Some d) (Some e) same is = let one : SameDevice d e = cc in says d e one is

-- what holds of each
pub each_same : (P : Device → Type 0) → ((d e : Device) → SameDevice d e → P d → P e) → (ds es : List Device) → SameDevices ds es → AllByRecursion P ds → AllByRecursion P es
each_same P says [] [] same all = tt
each_same P says [] (e ∷ es) same all = absurd cc
each_same P says (d ∷ ds) [] same all = absurd cc
each_same P says (d ∷ ds) (e ∷ es) same all =
    let one : SameDevice d e = cc in
    let more : SameDevices ds es = cc in
    (says d e one all.0, each_same P says ds es more all.1)

-- what was kept of each
keeps_same : (id : List ℕ) (d e x : Device) → SameDevice d e → KeepsBut id d x → KeepsBut id e x
keeps_same id d e x same k =
    let old : kept d ≡ kept e = same_kept d e same in
    record {
      stays = record {
        fixed = k.stays.fixed ∙ ap (λ (z : Kept). z.fixed) old;
        long = k.stays.long ∙ ap (λ (z : Kept). length z.store) old;
        sound = λ s. k.stays.sound (subst IsSound (sym old) s);
      };
      other = λ apart. k.other (λ named. apart (sym (ap (λ (z : Kept). z.fixed.id) old) ∙ named)) ∙ old;
    }

pub all_keep_same : (id : List ℕ) (ds es xs : List Device) → SameDevices ds es → AllKeepBut id ds xs → AllKeepBut id es xs
all_keep_same id [] [] xs same k = k
all_keep_same id [] (e ∷ es) xs same k = absurd cc
all_keep_same id (d ∷ ds) [] xs same k = absurd cc
all_keep_same id (d ∷ ds) (e ∷ es) [] same k = absurd k
all_keep_same id (d ∷ ds) (e ∷ es) (x ∷ xs) same k =
    let one : SameDevice d e = cc in
    let more : SameDevices ds es = cc in
    (keeps_same id d e x one k.0, all_keep_same id ds es xs more k.1)
