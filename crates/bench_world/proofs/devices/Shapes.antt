-- What the conditions of a command ask of the devices that are placed: how many there are, their identifiers and blocks, and which
-- may ask for more time. No event changes any of it, so lines are taken by what the lines before them say.
use Rattle.std.proofs.Common.{◌≡◌, ℕ, suc, ◌+◌, ◌/◌, ◌<◌, List, [], ◌∷◌, ◌++◌, map, length, Bool, true, false, nat_eq, if◌then◌else◌, Option, Some, None, IsSome, refl, sym, ◌∙◌, ap, subst}
use Rattle.std.specs.Prelude.{◌≤◌}
use Rattle.bench_devices.specs.AnyFrame.{peers_in}
use Rattle.std.proofs.lemmas.List.{map-append, length-map}
use Rattle.std.specs.Cmp.Lexicographic.{pointwise}
use Rattle.nfc_base.specs.declared.event.Event.{Event}
use Rattle.air_core.specs.Conversation.{replay}
use Rattle.bench_script.specs.declared.command.Command.{Command}
use Rattle.bench_script.specs.declared.command.Command.TheVariants.{Skip, Fates, PlaceT2, PlaceT3, PlaceT4, PlaceT5, PlacePeer, Lock, Busy, Offer, Remove, Dump, Inbox, Find, Crowd, Poll3, Read, Read3}
use Rattle.bench_script.specs.declared.command.Command.TheVariants.{Write, Write3, Link, Forge, Raw, Put, Get, Lookup, OnPut, OnGet, Puts, Unlink}
use Rattle.bench_script.specs.DeviceIds.{bytes_of}
use Rattle.bench_script.specs.Script.{Spells, is_skipped}
use Rattle.bench_script.proofs.Spelling.{spells_one}
use Rattle.bench_devices.specs.declared.device.Device.{Device}
use Rattle.bench_devices.specs.declared.device.Device.TheVariants.{T2, T4, Peer, T5, T3}
use Rattle.bench_devices.specs.Kinds.{DeviceKind, T2Kind, T3Kind, T4Kind, PeerKind, T5Kind}
use Rattle.bench_devices.specs.Device.{most_devices, device_id, device_store, blocks_of, may_be_busy, is_tag, device_locked, device_busy}
use Rattle.bench_devices.specs.Keeping.{Fixed, fixed, AllStayDevices}
use Rattle.bench_devices.specs.Placed.{device_with, without, with_changed, OfPlaced}
use Rattle.bench_world.specs.declared.entry.Answer.{Answer}
use Rattle.bench_world.specs.declared.entry.Entry.{Entry}
use Rattle.bench_world.specs.Journal.{AreEntriesOf, asking_lines, LeadsTo}
use Rattle.bench_world.specs.Legal.{State, Given, Joins, Accepts, IsFree, FrontOf, LegalStep, EachLegal, changed, world_at_start, first_state}
use Rattle.bench_world.specs.World.{WholeWorld, bench_air}
use Rattle.bench_world.proofs.devices.FarStays.{far_stay}
use Rattle.bench_world.specs.Taking.{IsTaken, AreSpelled, AreAccepted, AreTaken, LinesDecide, standing_from, standing_of}
use Rattle.bench_devices.proofs.kinds.TagOrPeer.{tag_kind}

-- what the conditions ask of a device
pub record Shape : Type 0 where
  pub id : List ℕ
  pub blocks : ℕ
  pub busy : Bool
  pub tag : Bool

abbrev pub shape : Device → Shape
shape d = record { id = device_id d; blocks = blocks_of d; busy = may_be_busy d; tag = is_tag d }

-- States whose devices are of the same shapes, in the same order.
abbrev pub AreAlike : State → State → Type 0
AreAlike s t = map shape s.world.field.listeners ≡ map shape t.world.field.listeners

-- It is a function of what no event changes.
blocks_by : DeviceKind → ℕ → ℕ → ℕ
blocks_by T2Kind size long = long / 4
blocks_by T3Kind size long = long / 16
blocks_by T4Kind size long = 0
blocks_by PeerKind size long = 0
blocks_by T5Kind size long = long / size

busy_by : DeviceKind → Bool
busy_by T2Kind = false
busy_by T3Kind = false
busy_by T4Kind = true
busy_by PeerKind = true
busy_by T5Kind = false

shape_by : Fixed → ℕ → Shape
shape_by x long = record { id = x.id; blocks = blocks_by x.kind x.size long; busy = busy_by x.kind; tag = tag_kind x.kind }

shape_is : (d : Device) → shape d ≡ shape_by (fixed d) (length (device_store d))
unfolding shape_by blocks_by busy_by tag_kind
shape_is (T2 d) = refl
shape_is (T4 d) = refl
shape_is (Peer d) = refl
shape_is (T5 p) = refl
shape_is (T3 p) = refl

stay_alike : (ds es : List Device) → AllStayDevices ds es → map shape es ≡ map shape ds
stay_alike [] [] p = refl
stay_alike [] (e ∷ es) p = absurd p
stay_alike (d ∷ ds) [] p = absurd p
stay_alike (d ∷ ds) (e ∷ es) p =
    let same : shape e ≡ shape d =
    shape_is e ∙ ap (λ x. shape_by x (length (device_store e))) p.0.fixed ∙ ap (shape_by (fixed d)) p.0.long ∙ sym (shape_is d) in
    ap (λ x. x ∷ map shape es) same ∙ ap (λ xs. shape d ∷ xs) (stay_alike ds es p.1)

-- The device with an identifier, by its shape.
shape_if : Option Device → Option Shape
shape_if None = None
shape_if (Some d) = Some (shape d)

shape_with : List ℕ → List Shape → Option Shape
shape_with id [] = None
shape_with id (x ∷ xs) = if pointwise nat_eq x.id id then Some x else shape_with id xs

with_shape : (id : List ℕ) (ds : List Device) → shape_if (device_with id ds) ≡ shape_with id (map shape ds)
unfolding shape_if shape_with
with_shape id [] = refl
with_shape id (d ∷ ds) = by_name (pointwise nat_eq (device_id d) id) (with_shape id ds)
  where
    by_name : (v : Bool) → shape_if (device_with id ds) ≡ shape_with id (map shape ds) → shape_if (if v then Some d else device_with id ds)
        ≡ (if v then Some (shape d) else shape_with id (map shape ds))
    by_name true more = refl
    by_name false more = more

same_with : (id : List ℕ) (s t : State) → AreAlike s t → shape_if (device_with id s.world.field.listeners) ≡ shape_if (device_with id t.world.field.listeners)
same_with id s t alike = with_shape id s.world.field.listeners ∙ ap (shape_with id) alike ∙ sym (with_shape id t.world.field.listeners)

none_too : (o p : Option Device) → shape_if o ≡ shape_if p → o ≡ None → p ≡ None
unfolding shape_if
none_too None None e is = refl
none_too None (Some d) e is = absurd cc
none_too (Some d) p e is = absurd cc

some_too : (o p : Option Device) → shape_if o ≡ shape_if p → IsSome o → IsSome p
unfolding shape_if
some_too None p e is = absurd cc
some_too (Some d) None e is = absurd cc
some_too (Some d) (Some c) e is = refl

of_too : (P : Shape → Type 0) (o p : Option Device) → shape_if o ≡ shape_if p → OfPlaced (λ d. P (shape d)) o → OfPlaced (λ d. P (shape d)) p
unfolding shape_if
of_too P None p e is = absurd is
of_too P (Some d) None e is = absurd cc
of_too P (Some d) (Some c) e is = let same : shape d ≡ shape c = cc in subst P same is

-- how many peers there are, by their shapes
shapes_in : List Shape → ℕ
shapes_in [] = 0
shapes_in (x ∷ xs) = if x.tag then shapes_in xs else suc (shapes_in xs)

peers_by : (ds : List Device) → peers_in ds ≡ shapes_in (map shape ds)
unfolding shapes_in
peers_by [] = refl
peers_by (d ∷ ds) = ap (λ n. if is_tag d then n else suc n) (peers_by ds)

-- So a command is accepted in both states or in none.
free_too : (s t : State) (id : List ℕ) → AreAlike s t → IsFree s id → IsFree t id
free_too s t id alike free =
    let a : length s.world.field.listeners ≡ length t.world.field.listeners = sym (length-map s.world.field.listeners shape) ∙ ap length alike ∙ length-map t.world.field.listeners shape in
    record { room = subst (λ n. n < most_devices) a free.room; fresh = none_too (device_with id s.world.field.listeners) (device_with id t.world.field.listeners) (same_with id s t alike) free.fresh }

pub accepts_too : (s t : State) (c : Command) → AreAlike s t → Accepts s c → Accepts t c
accepts_too s t Skip alike is = tt
accepts_too s t (Fates fates) alike is = tt
accepts_too s t (PlaceT2 id blocks head) alike is = record { free = free_too s t id alike is.free; fits = is.fits; store = is.store }
accepts_too s t (PlaceT3 id blocks head) alike is = record { free = free_too s t id alike is.free; fits = is.fits; store = is.store }
accepts_too s t (PlaceT4 id code container head) alike is = record { free = free_too s t id alike is.free; fits = is.fits; store = is.store }
accepts_too s t (PlaceT5 id blocks size head) alike is = record { free = free_too s t id alike is.free; fits = is.fits; store = is.store }
accepts_too s t (PlacePeer id lr miu rw limit) alike is = record { free = free_too s t id alike is.free; code = is.code; size = is.size; window = is.window; limit = is.limit }
accepts_too s t (Lock id block) alike is =
    of_too (λ x. block < x.blocks) (device_with (bytes_of id) s.world.field.listeners) (device_with (bytes_of id) t.world.field.listeners) (same_with (bytes_of id) s t alike) is
accepts_too s t (Busy id count times) alike is = record {
  device = of_too (λ x. x.busy ≡ true) (device_with (bytes_of id) s.world.field.listeners) (device_with (bytes_of id) t.world.field.listeners) (same_with (bytes_of id) s t alike) is.device;
  few = is.few;
  long = is.long;
}
accepts_too s t (Offer id key value) alike is = record {
  peer = of_too (λ x. x.tag ≡ false) (device_with (bytes_of id) s.world.field.listeners) (device_with (bytes_of id) t.world.field.listeners) (same_with (bytes_of id) s t alike) is.peer;
  short = is.short;
}
accepts_too s t (Remove id) alike is = some_too (device_with (bytes_of id) s.world.field.listeners) (device_with (bytes_of id) t.world.field.listeners) (same_with (bytes_of id) s t alike) is
accepts_too s t (Dump id) alike is =
    of_too (λ x. x.tag ≡ true) (device_with (bytes_of id) s.world.field.listeners) (device_with (bytes_of id) t.world.field.listeners) (same_with (bytes_of id) s t alike) is
accepts_too s t (Inbox id) alike is =
    of_too (λ x. x.tag ≡ false) (device_with (bytes_of id) s.world.field.listeners) (device_with (bytes_of id) t.world.field.listeners) (same_with (bytes_of id) s t alike) is
accepts_too s t Find alike is = tt
accepts_too s t Crowd alike is = tt
accepts_too s t Poll3 alike is = tt
accepts_too s t (Read id) alike is = tt
accepts_too s t (Read3 id) alike is = tt
accepts_too s t (Write3 id m) alike is = tt
accepts_too s t (Write id m) alike is = tt
accepts_too s t (Link id miu window) alike is = is
accepts_too s t (Forge id payloads) alike is = is
accepts_too s t (Raw id frames) alike is = record {
  some = is.some;
  few = is.few;
  each = is.each;
  one = subst (λ n. n ≤ 1) (peers_by s.world.field.listeners ∙ ap shapes_in alike ∙ sym (peers_by t.world.field.listeners)) is.one;
}
accepts_too s t (OnPut slot m) alike is = is
accepts_too s t (OnGet slot most key) alike is = is
accepts_too s t (Puts puts) alike is = is
accepts_too s t (Put m) alike is = is
accepts_too s t (Get most key) alike is = is
accepts_too s t (Lookup name) alike is = is
accepts_too s t Unlink alike is = tt

pub taken_too : (s t : State) (line : List ℕ) → AreAlike s t → IsTaken s line → IsTaken t line
taken_too s t line alike is = (is.0, is.1, accepts_too s t is.0 alike is.2)

-- What a command itself changes leaves both alike.
placed_alike : (ds es : List Device) (d : Device) → map shape ds ≡ map shape es → map shape (ds ++ d ∷ []) ≡ map shape (es ++ d ∷ [])
placed_alike ds es d alike = map-append shape ds (d ∷ []) ∙ ap (λ xs. xs ++ shape d ∷ []) alike ∙ sym (map-append shape es (d ∷ []))

without_shape : List ℕ → List Shape → List Shape
without_shape id [] = []
without_shape id (x ∷ xs) = if pointwise nat_eq x.id id then xs else x ∷ without_shape id xs

removed_shape : (id : List ℕ) (ds : List Device) → map shape (without id ds) ≡ without_shape id (map shape ds)
unfolding without_shape
removed_shape id [] = refl
removed_shape id (d ∷ ds) = by_name (pointwise nat_eq (device_id d) id) (removed_shape id ds)
  where
    by_name : (v : Bool) → map shape (without id ds) ≡ without_shape id (map shape ds) → map shape (if v then ds else d ∷ without id ds)
        ≡ (if v then map shape ds else shape d ∷ without_shape id (map shape ds))
    by_name true more = refl
    by_name false more = ap (λ xs. shape d ∷ xs) more

changed_shape : (g : Device → Device) → ((d : Device) → shape (g d) ≡ shape d) → (id : List ℕ) (ds : List Device) → map shape (with_changed g id ds) ≡ map shape ds
changed_shape g same id [] = refl
changed_shape g same id (d ∷ ds) = by_name (pointwise nat_eq (device_id d) id) (changed_shape g same id ds)
  where
    by_name : (v : Bool) → map shape (with_changed g id ds) ≡ map shape ds → map shape (if v then g d ∷ ds else d ∷ with_changed g id ds) ≡ map shape (d ∷ ds)
    by_name true more = ap (λ x. x ∷ map shape ds) (same d)
    by_name false more = ap (λ xs. shape d ∷ xs) more

locked_shape : (block : ℕ) (d : Device) → shape (device_locked block d) ≡ shape d
locked_shape block (T2 d) = refl
locked_shape block (T4 d) = refl
locked_shape block (Peer d) = refl
locked_shape block (T5 p) = refl
locked_shape block (T3 p) = refl

busy_shape : (count times : ℕ) (d : Device) → shape (device_busy count times d) ≡ shape d
busy_shape count times (T2 d) = refl
busy_shape count times (T4 d) = refl
busy_shape count times (Peer d) = refl
busy_shape count times (T5 p) = refl
busy_shape count times (T3 p) = refl

changes_alike : (s t : State) (c : Command) → AreAlike s t → AreAlike (changed s c) (changed t c)
changes_alike s t Skip alike = alike
changes_alike s t (Fates fates) alike = alike
changes_alike s t (PlaceT2 id blocks head) alike = placed_alike s.world.field.listeners t.world.field.listeners _ alike
changes_alike s t (PlaceT3 id blocks head) alike = placed_alike s.world.field.listeners t.world.field.listeners _ alike
changes_alike s t (PlaceT4 id code container head) alike = placed_alike s.world.field.listeners t.world.field.listeners _ alike
changes_alike s t (PlaceT5 id blocks size head) alike = placed_alike s.world.field.listeners t.world.field.listeners _ alike
changes_alike s t (PlacePeer id lr miu rw limit) alike = placed_alike s.world.field.listeners t.world.field.listeners _ alike
changes_alike s t (Lock id block) alike =
    changed_shape (device_locked block) (locked_shape block) (bytes_of id) s.world.field.listeners ∙ alike
    ∙ sym (changed_shape (device_locked block) (locked_shape block) (bytes_of id) t.world.field.listeners)
changes_alike s t (Busy id count times) alike =
    changed_shape (device_busy count times) (busy_shape count times) (bytes_of id) s.world.field.listeners ∙ alike
    ∙ sym (changed_shape (device_busy count times) (busy_shape count times) (bytes_of id) t.world.field.listeners)
changes_alike s t (Offer id key value) alike = alike
changes_alike s t (Remove id) alike =
    removed_shape (bytes_of id) s.world.field.listeners ∙ ap (without_shape (bytes_of id)) alike ∙ sym (removed_shape (bytes_of id) t.world.field.listeners)
changes_alike s t (Dump id) alike = alike
changes_alike s t (Inbox id) alike = alike
changes_alike s t Find alike = alike
changes_alike s t Crowd alike = alike
changes_alike s t Poll3 alike = alike
changes_alike s t (Read id) alike = alike
changes_alike s t (Read3 id) alike = alike
changes_alike s t (Write3 id m) alike = alike
changes_alike s t (Write id m) alike = alike
changes_alike s t (Link id miu window) alike = alike
changes_alike s t (Forge id payloads) alike = alike
changes_alike s t (Raw id frames) alike = alike
changes_alike s t (OnPut slot m) alike = alike
changes_alike s t (OnGet slot most key) alike = alike
changes_alike s t (Puts puts) alike = alike
changes_alike s t (Put m) alike = alike
changes_alike s t (Get most key) alike = alike
changes_alike s t (Lookup name) alike = alike
changes_alike s t Unlink alike = alike

-- a step leads on alike, whatever was sent in it
step_alike : {told : Option Answer} (u s t : State) (g : Given) (c : Command) (es : List Event) → AreAlike u s → FrontOf s g c es told t → AreAlike (changed u c) t
step_alike u s t g c es alike front =
    let w : WholeWorld = world_at_start s g.joins c in
    changes_alike u s c alike ∙ sym (stay_alike w.field.listeners (replay bench_air w es).field.listeners (far_stay es w).stay)
    ∙ sym (ap (λ (x : State). map shape x.world.field.listeners) front.after)

-- The lines of a legal journal are taken, and lead on alike.
record LeadsAlike (lines : List (List ℕ)) (u t : State) : Type 0 where
  pub commands : List Command
  pub spelled : AreSpelled lines commands
  pub accepted : AreAccepted u commands
  pub alike : AreAlike (standing_from u commands) t

lines_alike : (n : ℕ) (lines : List (List ℕ)) (u s t : State) (gs : List Given) (js : List Entry) → AreEntriesOf (asking_lines n lines) js → EachLegal s gs js t → AreAlike u s → LeadsAlike lines u t
lines_alike n [] u s t [] [] of steps alike = record { commands = []; spelled = tt; accepted = tt; alike = alike ∙ ap (λ (x : State). map shape x.world.field.listeners) (sym steps) }
lines_alike n [] u s t (g ∷ gs) [] of steps alike = absurd steps
lines_alike n [] u s t gs (e ∷ js) of steps alike = absurd of
lines_alike n (l ∷ ls) u s t gs js of steps alike =
    by_skip (is_skipped l) refl of (λ p. lines_alike (n + 1) ls u s t gs js p steps alike)
    (λ hs e ks mid g step p rest. lines_alike (n + 1) ls (changed u e.command) mid t hs ks p rest (step_alike u s mid g e.command e.events alike step.front))
  where
    then_more : (c : Command) → Spells l c → Accepts u c → LeadsAlike ls (changed u c) t → LeadsAlike (l ∷ ls) u t
    then_more c spelled accepted rest = record { commands = c ∷ rest.commands; spelled = (spelled, rest.spelled); accepted = (accepted, rest.accepted); alike = rest.alike }

    by_entry : (hs : List Given) (ks : List Entry) → AreEntriesOf (record { number = n; text = l } ∷ asking_lines (n + 1) ls) ks → EachLegal s hs ks t
        → ((is : List Given) (e : Entry) (xs : List Entry) (mid : State) (g : Given) → LegalStep s g e mid → AreEntriesOf (asking_lines (n + 1) ls) xs → EachLegal mid is xs t
        → LeadsAlike ls (changed u e.command) t)
        → LeadsAlike (l ∷ ls) u t
    by_entry hs [] p q on = absurd p
    by_entry [] (e ∷ ks) p q on = absurd q
    by_entry (h ∷ hs) (e ∷ ks) p q on = then_more e.command p.1 (accepts_too s u e.command (sym alike) q.1.front.accepted) (on hs e ks q.0 h q.1 p.2 q.2)

    by_skip : (v : Bool) → is_skipped l ≡ v
        → AreEntriesOf (if v then asking_lines (n + 1) ls else record { number = n; text = l } ∷ asking_lines (n + 1) ls) js
        → (AreEntriesOf (asking_lines (n + 1) ls) js → LeadsAlike ls u t)
        → ((is : List Given) (e : Entry) (xs : List Entry) (mid : State) (g : Given) → LegalStep s g e mid → AreEntriesOf (asking_lines (n + 1) ls) xs → EachLegal mid is xs t
        → LeadsAlike ls (changed u e.command) t)
        → LeadsAlike (l ∷ ls) u t
    by_skip true h p skip on = then_more Skip h tt (skip p)
    by_skip false h p skip on = by_entry gs js p steps on

pub record TakenAlike (lines : List (List ℕ)) (last : State) : Type 0 where
  pub commands : List Command
  pub taken : AreTaken lines commands
  pub alike : AreAlike (standing_of commands) last

pub legal_taken : (lines : List (List ℕ)) (numbers : List Joins) (journal : List Entry) (last : State) → LeadsTo lines numbers journal last → TakenAlike lines last
legal_taken lines numbers journal last leads =
    let it = lines_alike 1 lines first_state first_state last leads.given journal leads.numbered leads.steps refl in
    record { commands = it.commands; taken = record { spelled = it.spelled; accepted = it.accepted }; alike = it.alike }

-- A line among taken ones is taken behind those before it, whatever commands are said of them.
pub taken_at : (s : State) (before : List (List ℕ)) (line : List ℕ) (after : List (List ℕ)) (cs ds : List Command) → AreSpelled (before ++ line ∷ after) cs → AreAccepted s cs → AreSpelled before ds
    → IsTaken (standing_from s ds) line
taken_at s [] line after [] ds p q r = absurd p
taken_at s [] line after (c ∷ cs) [] p q r = (c, p.0, q.0)
taken_at s [] line after (c ∷ cs) (d ∷ ds) p q r = absurd r
taken_at s (l ∷ ls) line after [] ds p q r = absurd p
taken_at s (l ∷ ls) line after (c ∷ cs) [] p q r = absurd r
taken_at s (l ∷ ls) line after (c ∷ cs) (d ∷ ds) p q r =
    let same : c ≡ d = spells_one l c d p.0 r.0 in
    subst (λ x. IsTaken (standing_from (changed s x) ds) line) same (taken_at (changed s c) ls line after cs ds p.1 q.1 r.1)

-- So the lines alone decide which are taken.
pub lines_decide : LinesDecide
lines_decide lines numbers journal last leads =
    let it = legal_taken lines numbers journal last leads in
    (it.commands, it.taken, λ line. (taken_too last (standing_of it.commands) line (sym it.alike), taken_too (standing_of it.commands) last line it.alike))
