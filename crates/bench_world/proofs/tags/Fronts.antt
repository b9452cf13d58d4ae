-- A command that finds, reads or writes: at its frames no device hands anything over. So its fronts in the world with far ends are those of the
-- quiet air over the field, and the far ends stay.
use Rattle.std.proofs.Common.{◌≡◌, ◌⊎◌, inl, inr, ℕ, suc, List, [], ◌∷◌, ◌++◌, length, Option, Some, None, refl, sym, ◌∙◌, ap, subst, map}
use Rattle.std.specs.Prelude.{map}
use Rattle.nfc_base.specs.declared.event.Event.{Event}
use Rattle.nfc_base.specs.declared.event.Event.TheVariants.{Reset, Request, Answer, Clash}
use Rattle.nfc_base.specs.Signal.{Signal}
use Rattle.nfc_base.specs.Trace.{back_of}
use Rattle.nfc_base.specs.Trace as backs
use Rattle.air_core.specs.Conversation.{Over, LightUp, Asks, AreTurns, EachDue, replay, queue_after}
use Rattle.air_core.proofs.Following.{trace_first}
use Rattle.far_air.specs.FarEnds.{first_far, later_fars, rests, by_link}
use Rattle.far_air.specs.FarWorld.{with_numbers}
use Rattle.far_air.specs.FarLaws.{IsFarTable, shown}
use Rattle.far_air.specs.FarLaws as far
use Rattle.far_air.specs.Quietly.{NoneHands, AreCalm, DoesQuietly, IsQuietStretch}
use Rattle.far_air.proofs.OnField.{quiet_fields}
use Rattle.far_air.proofs.Quietly.{unlinked_stay, quiet_stretches}
use Rattle.far_air.proofs.Showing.{rests_shown}
use Rattle.peer_air.specs.PeerFars.{peer_ends}
use Rattle.peer_air.proofs.PeerEnds.{are_far_ends}
use Rattle.snep_core.specs.Server.{serving}
use Rattle.bench_script.specs.declared.command.Command.{Command}
use Rattle.bench_script.specs.declared.command.Command.TheVariants.{Find, Crowd, Poll3, Read, Read3, Write, Write3, Link, Forge, Put, Get, Lookup, Unlink, OnPut, OnGet, Puts, Raw}
use Rattle.bench_script.specs.declared.command.DeviceId.{DeviceId}
use Rattle.bench_script.specs.declared.command.DeviceId.TheVariants.{A, V}
use Rattle.bench_script.specs.DeviceIds.{bytes_of}
use Rattle.bench_script.specs.Messages.{message_of}
use Rattle.bench_devices.specs.declared.device.Device.{Device}
use Rattle.bench_devices.specs.Kinds.{DeviceKind, T2Kind, T3Kind, T4Kind, PeerKind, T5Kind, IfRead}
use Rattle.bench_devices.specs.Device.{BenchWorld, air, devices, device_linked, stable_of, StablePart, kind_of}
use Rattle.bench_devices.specs.Calm.{IsCalmDue}
use Rattle.bench_devices.specs.Placed.{device_with, IfPlaced}
use Rattle.bench_devices.specs.Reading.{AsksOf}
use Rattle.bench_devices.specs.TagAsking.{tag_due}
use Rattle.bench_devices.specs.Writing.{AsksWriteOf}
use Rattle.bench_devices.proofs.turns.CalmDues.{calm_finding, calm_crowding, calm_reading, calm_writing, calm_unasked}
use Rattle.bench_devices.proofs.turns.CalmThrees.{calm_sensing, calm_reading_three, calm_writing_three, calm_unasked_three}
use Rattle.bench_devices.proofs.kinds.PeerLinks.{devices_link}
use Rattle.bench_devices.specs.Device.{device_locks, device_store}
use Rattle.bench_devices.specs.ThreeAsking.{three_due}
use Rattle.bench_devices.specs.Threes.{ReadAsksThree, WriteAsksThreeOf}
use Rattle.bench_world.specs.Threes.{IfThree}
use Rattle.bench_world.specs.Reading.{ReadAsks}
use Rattle.bench_world.specs.Writing.{WriteAsks}
use Rattle.bench_devices.specs.Keeping.{AllStayDevices}
use Rattle.bench_devices.proofs.kinds.EveryFrame.{devices_stay}
use Rattle.bench_world.specs.World.{FarEnd, WholeWorld, bench_air, Stable, stable}
use Rattle.bench_world.specs.declared.entry.Answer.{Answer as Told}
use Rattle.bench_world.proofs.tags.Numbers.{UsesFars}
use Rattle.bench_world.specs.Links.{OpenLink}
use Rattle.bench_world.specs.Peers.{Peers}
use Rattle.bench_world.specs.Legal.{State, Given, Joins, IsAskedBy, FrontOf, changed, due, world_at_start, world_after, peers_after, link_after, state_after}

-- the far ends above a field, one place a device
abbrev pub Ends : Type 0
Ends = List (Option FarEnd)

-- ends of peers are far ends
pub ends_table : IsFarTable peer_ends
ends_table = are_far_ends serving (λ s. refl)

-- At what is due in a command no device hands anything over that has no link.
reads_calm : (o : Option Device) (asked : List Signal) (id : DeviceId) → IfPlaced (λ d. ReadAsks d asked) (asked ≡ []) o → IsCalmDue (tag_due id asked)
reads_calm None asked id none = subst (λ a. IsCalmDue (tag_due id a)) (sym none) (calm_unasked.1 id)
reads_calm (Some d) asked id is = by_kind (kind_of d) is
  where
    by_kind : (k : DeviceKind) → IfRead k (AsksOf d asked) (asked ≡ []) → IsCalmDue (tag_due id asked)
    by_kind T2Kind a = (calm_reading d asked a).1 id
    by_kind T4Kind a = (calm_reading d asked a).1 id
    by_kind T5Kind a = (calm_reading d asked a).1 id
    by_kind T3Kind none = subst (λ a. IsCalmDue (tag_due id a)) (sym none) (calm_unasked.1 id)
    by_kind PeerKind none = subst (λ a. IsCalmDue (tag_due id a)) (sym none) (calm_unasked.1 id)

writes_calm : (m : List ℕ) (o : Option Device) (asked : List Signal) (id : DeviceId) → IfPlaced (λ d. WriteAsks m d asked) (asked ≡ []) o → IsCalmDue (tag_due id asked)
writes_calm m None asked id none = subst (λ a. IsCalmDue (tag_due id a)) (sym none) (calm_unasked.1 id)
writes_calm m (Some d) asked id is = by_kind (kind_of d) is
  where
    by_kind : (k : DeviceKind) → IfRead k (AsksWriteOf m d asked) (asked ≡ []) → IsCalmDue (tag_due id asked)
    by_kind T2Kind a = (calm_writing m d asked a).1 id
    by_kind T4Kind a = (calm_writing m d asked a).1 id
    by_kind T5Kind a = (calm_writing m d asked a).1 id
    by_kind T3Kind none = subst (λ a. IsCalmDue (tag_due id a)) (sym none) (calm_unasked.1 id)
    by_kind PeerKind none = subst (λ a. IsCalmDue (tag_due id a)) (sym none) (calm_unasked.1 id)

-- likewise of a Type 3 tag
three_calm : (IsAll : Device → List Signal → Type 0) (id : List ℕ) (asked : List Signal) → ((d : Device) → IsAll d asked → IsCalmDue (three_due id asked)) → (o : Option Device)
    → IfPlaced (λ d. IfThree (kind_of d) (IsAll d asked) (asked ≡ [])) (asked ≡ []) o → IsCalmDue (three_due id asked)
three_calm IsAll id asked says None none = subst (λ a. IsCalmDue (three_due id a)) (sym none) (calm_unasked_three id)
three_calm IsAll id asked says (Some d) is = by_kind (kind_of d) is
  where
    by_kind : (k : DeviceKind) → IfThree k (IsAll d asked) (asked ≡ []) → IsCalmDue (three_due id asked)
    by_kind T2Kind none = subst (λ a. IsCalmDue (three_due id a)) (sym none) (calm_unasked_three id)
    by_kind T3Kind a = says d a
    by_kind T4Kind none = subst (λ a. IsCalmDue (three_due id a)) (sym none) (calm_unasked_three id)
    by_kind PeerKind none = subst (λ a. IsCalmDue (three_due id a)) (sym none) (calm_unasked_three id)
    by_kind T5Kind none = subst (λ a. IsCalmDue (three_due id a)) (sym none) (calm_unasked_three id)

nothing_due : (es before : List Event) → EachDue (λ ns. Over) before es → AreCalm devices device_linked es
nothing_due [] before each = tt
nothing_due (Reset ∷ es) before each = nothing_due es (before ++ Reset ∷ []) each.1
nothing_due (Request f x ∷ es) before each = absurd (let clash : Over ≡ Asks f = each.0 in cc)
nothing_due (Answer g x ∷ es) before each = nothing_due es (before ++ Answer g x ∷ []) each
nothing_due (Clash g x ∷ es) before each = nothing_due es (before ++ Clash g x ∷ []) each

calm_due : (s : State) (g : Given) (c : Command) (es : List Event) → (UsesFars c → ⊥) → IsAskedBy s c g.asked → EachDue (due s g c) [] es → AreCalm devices device_linked es
calm_due s g Find es quiet asked each = calm_finding es each
calm_due s g Crowd es quiet asked each = calm_crowding es each
calm_due s g Poll3 es quiet asked each = calm_sensing es each
calm_due s g (Read id) es quiet asked each = reads_calm (device_with (bytes_of id) s.world.field.listeners) g.asked id asked es each
calm_due s g (Write id m) es quiet asked each = writes_calm (message_of m) (device_with (bytes_of id) s.world.field.listeners) g.asked id asked es each
calm_due s g (Read3 id) es quiet asked each =
    three_calm (λ d cs. ReadAsksThree id (device_store d) cs) id g.asked (λ d is. calm_reading_three id (device_store d) g.asked is) (device_with id s.world.field.listeners) asked es each
calm_due s g (Write3 id m) es quiet asked each =
    three_calm (λ d cs. WriteAsksThreeOf id (message_of m) d cs) id g.asked (λ d is. calm_writing_three id (device_store d) (device_locks d) (message_of m) g.asked is)
    (device_with id s.world.field.listeners) asked es each
calm_due s g (Link id miu window) es quiet asked each = absurd (quiet tt)
calm_due s g (Forge id payloads) es quiet asked each = absurd (quiet tt)
calm_due s g (Raw id frames) es quiet asked each = absurd (quiet tt)
calm_due s g (Put m) es quiet asked each = absurd (quiet tt)
calm_due s g (Get most key) es quiet asked each = absurd (quiet tt)
calm_due s g (Lookup name) es quiet asked each = absurd (quiet tt)
calm_due s g (OnPut slot m) es quiet asked each = absurd (quiet tt)
calm_due s g (OnGet slot most key) es quiet asked each = absurd (quiet tt)
calm_due s g (Puts puts) es quiet asked each = absurd (quiet tt)
calm_due s g Unlink es quiet asked each = absurd (quiet tt)
calm_due s g c es quiet asked each = nothing_due es [] each

-- any other that sends something begins with a reset
begins_lit : (s : State) (g : Given) (c : Command) → (UsesFars c → ⊥) → (due s g c [] ≡ Over) ⊎ (due s g c [] ≡ LightUp)
begins_lit s g Find quiet = inr refl
begins_lit s g Crowd quiet = inr refl
begins_lit s g Poll3 quiet = inr refl
begins_lit s g (Read (A id)) quiet = inr refl
begins_lit s g (Read (V id)) quiet = inr refl
begins_lit s g (Write (A id) message) quiet = inr refl
begins_lit s g (Write (V id) message) quiet = inr refl
begins_lit s g (Read3 id) quiet = inr refl
begins_lit s g (Write3 id message) quiet = inr refl
begins_lit s g (Link id miu window) quiet = absurd (quiet tt)
begins_lit s g (Forge id payloads) quiet = absurd (quiet tt)
begins_lit s g (Raw id frames) quiet = absurd (quiet tt)
begins_lit s g (Put m) quiet = absurd (quiet tt)
begins_lit s g (Get most key) quiet = absurd (quiet tt)
begins_lit s g (Lookup name) quiet = absurd (quiet tt)
begins_lit s g (OnPut slot m) quiet = absurd (quiet tt)
begins_lit s g (OnGet slot most key) quiet = absurd (quiet tt)
begins_lit s g (Puts puts) quiet = absurd (quiet tt)
begins_lit s g Unlink quiet = absurd (quiet tt)
begins_lit s g c quiet = inl refl

asks_no_first : (s : State) (g : Given) (c : Command) (f : Signal) → (UsesFars c → ⊥) → due s g c [] ≡ Asks f → ⊥
asks_no_first s g c f quiet e = elim (begins_lit s g c quiet) [
  | inl over ↦ (let clash : Over ≡ Asks f = sym over ∙ e in cc)
  | inr lit ↦ (let clash : LightUp ≡ Asks f = sym lit ∙ e in cc)
]

-- So none hands anything over in them.
pub none_hand : (s : State) (g : Given) (c : Command) (es : List Event) → (UsesFars c → ⊥) → IsAskedBy s c g.asked → EachDue (due s g c) [] es → back_of es ≡ backs.Nothing → (w : BenchWorld)
    → NoneHands devices w es
none_hand s g c [] quiet asked each first w = tt
none_hand s g c (Reset ∷ es) quiet asked each first w = ((unlinked_stay devices device_linked devices_link).1 w es (calm_due s g c (Reset ∷ es) quiet asked each)).none
none_hand s g c (Request f x ∷ es) quiet asked each first w = absurd (asks_no_first s g c f quiet each.0)
none_hand s g c (Answer f x ∷ es) quiet asked each first w = absurd cc
none_hand s g c (Clash f x ∷ es) quiet asked each first w = absurd cc

none_in_front : {told : Option Told} (s t : State) (g : Given) (c : Command) (es : List Event) → (UsesFars c → ⊥) → FrontOf s g c es told t → (w : BenchWorld) → NoneHands devices w es
none_in_front s t g c es quiet front w =
    none_hand s g c es quiet front.asks front.each (ap back_of front.turns.made ∙ trace_first bench_air (world_at_start s g.joins c) front.turns.moves) w

does_quietly : {told : Option Told} (s t : State) (g : Given) (c : Command) (es : List Event) → (UsesFars c → ⊥) → FrontOf s g c es told t → (w : WholeWorld)
    → DoesQuietly devices device_linked peer_ends w es
does_quietly s t g c es quiet front w = quiet_fields devices device_linked peer_ends w es (none_in_front s t g c es quiet front w.field)

-- A front over the field alone.
pub record OnField (s : State) (c : Command) (es : List Event) (t : State) : Type 0 where
  pub turns : AreTurns air (changed s c).world.field es
  pub field : t.world.field ≡ replay air (changed s c).world.field es
  pub queue : t.queue ≡ queue_after (changed s c).queue es

pub on_field : {told : Option Told} (s t : State) (g : Given) (c : Command) (es : List Event) → (UsesFars c → ⊥) → FrontOf s g c es told t → OnField s c es t
on_field s t g c es quiet front =
    let q : DoesQuietly devices device_linked peer_ends (world_at_start s g.joins c) es = does_quietly s t g c es quiet front (world_at_start s g.joins c) in
    record {
      turns = q.turns.0 front.turns;
      field = ap (λ (x : State). x.world.field) front.after ∙ q.field;
      queue = ap (λ (x : State). x.queue) front.after;
    }

-- the field of the state after a front
pub field_after : {told : Option Told} (s t : State) (g : Given) (c : Command) (es : List Event) → (UsesFars c → ⊥) → FrontOf s g c es told t
    → (world_after s g.joins c es).field ≡ replay air (changed s c).world.field es
field_after s t g c es quiet front = (does_quietly s t g c es quiet front (world_at_start s g.joins c)).field

-- So it leaves the links as the command itself does.
same_peers : (s : State) (joins : Joins) (c : Command) (es : List Event) (told : Option Told) → (UsesFars c → ⊥) → peers_after s joins c es told ≡ (changed s c).peers
same_peers s joins (Link id miu window) es told quiet = absurd (quiet tt)
same_peers s joins (Forge id payloads) es told quiet = absurd (quiet tt)
same_peers s joins (Raw id frames) es told quiet = absurd (quiet tt)
same_peers s joins (Put m) es told quiet = absurd (quiet tt)
same_peers s joins (Get most key) es told quiet = absurd (quiet tt)
same_peers s joins (Lookup name) es told quiet = absurd (quiet tt)
same_peers s joins (OnPut slot m) es told quiet = absurd (quiet tt)
same_peers s joins (OnGet slot most key) es told quiet = absurd (quiet tt)
same_peers s joins (Puts puts) es told quiet = absurd (quiet tt)
same_peers s joins Unlink es told quiet = absurd (quiet tt)
same_peers s joins c es told quiet = refl

same_link : (s : State) (joins : Joins) (c : Command) (es : List Event) (told : Option Told) → (UsesFars c → ⊥) → link_after s joins c es told ≡ (changed s c).link
same_link s joins (Link id miu window) es told quiet = absurd (quiet tt)
same_link s joins (Forge id payloads) es told quiet = absurd (quiet tt)
same_link s joins (Raw id frames) es told quiet = absurd (quiet tt)
same_link s joins (Put m) es told quiet = absurd (quiet tt)
same_link s joins (Get most key) es told quiet = absurd (quiet tt)
same_link s joins (Lookup name) es told quiet = absurd (quiet tt)
same_link s joins (OnPut slot m) es told quiet = absurd (quiet tt)
same_link s joins (OnGet slot most key) es told quiet = absurd (quiet tt)
same_link s joins (Puts puts) es told quiet = absurd (quiet tt)
same_link s joins Unlink es told quiet = absurd (quiet tt)
same_link s joins c es told quiet = refl

pub links_stay : (s : State) (joins : Joins) (c : Command) (es : List Event) (told : Option Told) → (UsesFars c → ⊥)
    → state_after s joins c es told ≡ record { world = world_after s joins c es; queue = queue_after (changed s c).queue es; peers = (changed s c).peers; link = (changed s c).link }
links_stay s joins c es told quiet =
    let w : WholeWorld = world_after s joins c es in
    let S : Peers → Option OpenLink → State = λ p l. record { world = w; queue = queue_after (changed s c).queue es; peers = p; link = l } in
    ap (λ p. S p (link_after s joins c es told)) (same_peers s joins c es told quiet) ∙ ap (S (changed s c).peers) (same_link s joins c es told quiet)

-- The far ends that are above a field stay in such events.
stay_long : (ds es : List Device) → AllStayDevices ds es → length es ≡ length ds
stay_long [] [] p = refl
stay_long [] (e ∷ es) p = absurd p
stay_long (d ∷ ds) [] p = absurd p
stay_long (d ∷ ds) (e ∷ es) p = ap suc (stay_long ds es p.1)

pub as_long : (w : BenchWorld) (es : List Event) → length (replay air w es).listeners ≡ length w.listeners
as_long w es = stay_long w.listeners (replay air w es).listeners (devices_stay w es)

pub rests_alike : (ls ks : List Device) (os : Ends) → length ls ≡ length ks
    → map (rests peer_ends) (shown device_linked peer_ends ls os) ≡ map (rests peer_ends) (shown device_linked peer_ends ks os)
rests_alike [] [] os e = refl
rests_alike [] (k ∷ ks) os e = absurd cc
rests_alike (l ∷ ls) [] os e = absurd cc
rests_alike (l ∷ ls) (k ∷ ks) os e =
    let o : Option FarEnd = first_far os in
    let more : length ls ≡ length ks = cc in
    ap (λ x. x ∷ map (rests peer_ends) (shown device_linked peer_ends ls (later_fars os)))
    (rests_shown peer_ends ends_table (device_linked l) o ∙ sym (rests_shown peer_ends ends_table (device_linked k) o))
    ∙ ap (λ xs. rests peer_ends (by_link peer_ends (device_linked k) o) ∷ xs) (rests_alike ls ks (later_fars os) more)

-- the world behind some events, from a field under these far ends
abbrev pub world_behind : Ends → BenchWorld → List Event → WholeWorld
world_behind os w es = with_numbers (replay bench_air (far.seen device_linked peer_ends w os []) es) []

module _ (w : BenchWorld) (es : List Event) (os : Ends) (none : NoneHands devices w es) where
  pub stretch : IsQuietStretch devices device_linked peer_ends w os [] es
  stretch = quiet_stretches devices device_linked peer_ends devices_link ends_table w os [] es none

  pub field_behind : (world_behind os w es).field ≡ replay air w es
  field_behind = ap (λ (z : WholeWorld). z.field) stretch.after

  pub ends_behind : (stable (world_behind os w es)).ends ≡ (stable (far.seen device_linked peer_ends w os [])).ends
  ends_behind =
      ap (λ (z : WholeWorld). (stable z).ends) stretch.after ∙ rests_alike (replay air w es).listeners w.listeners os (as_long w es)

  -- and so does all that stays, where it does on the field
  pub stable_behind : map stable_of (replay air w es).listeners ≡ map stable_of w.listeners → stable (world_behind os w es) ≡ stable (far.seen device_linked peer_ends w os [])
  stable_behind same =
      let S : List StablePart → Ends → Stable = λ ds os. record { devices = ds; ends = os } in
      ap (λ (z : BenchWorld). S (map stable_of z.listeners) (stable (world_behind os w es)).ends) field_behind ∙ ap (λ ds. S ds (stable (world_behind os w es)).ends) same
      ∙ ap (S (map stable_of w.listeners)) ends_behind
