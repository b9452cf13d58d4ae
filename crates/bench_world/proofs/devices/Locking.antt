-- A block of a tag is locked, a tag asks for more time from now on, and what a tag holds is told.
use Rattle.std.proofs.Common.{◌≡◌, ℕ, suc, ◌<◌, ◌≤◌, List, [], ◌∷◌, ◌++◌, length, map, nat_eq, true, if◌then◌else◌, Option, Some, refl, sym, ◌∙◌, ap, subst}
use Rattle.std.specs.Prelude.{slice_set, slice_index_or}
use Rattle.std.proofs.Math.Seq.{set-append_seam, get_or-append_seam}
use Rattle.std.specs.Cmp.Lexicographic.{pointwise}
use Rattle.air_core.specs.Turn.{Air}
use Rattle.nfca_poll.proofs.quiet.OneLevel.{pointwise_self}
use Rattle.bench_script.specs.declared.command.Command.{Command}
use Rattle.bench_script.specs.declared.command.Command.TheVariants.{Lock, Busy, Dump}
use Rattle.bench_script.specs.declared.command.DeviceId.{DeviceId}
use Rattle.bench_devices.specs.declared.device.Device.{Device}
use Rattle.bench_devices.specs.declared.device.Device.TheVariants.{T2, T4, Peer, T5, T3}
use Rattle.bench_world.specs.declared.entry.Answer.TheVariants.{Done, Store}
use Rattle.bench_devices.specs.Choosing.{StandsAt}
use Rattle.std.specs.List.{AllByRecursion}
use Rattle.bench_devices.specs.Device.{device_id, most_devices, blocks_of, device_locked, may_be_busy, device_busy, is_tag, memory_in}
use Rattle.nfc_base.specs.Pieces.{most_busy, longest_extension}
use Rattle.air_core.specs.Conversation.{Over}
use Rattle.bench_world.specs.Legal.{State, MayBeBusy, Accepts, with_device_changed, IsAskedBy, AnswerLaw, changed, due}
use Rattle.bench_devices.specs.Placed.{device_with, with_changed, OfPlaced}
use Rattle.bench_world.specs.Obeying.{state_at, Obeyed, ObeyedBelow}
use Rattle.bench_world.specs.World.{FarEnd}
use Rattle.far_air.specs.FarEnds.{first_far, later_fars, by_link}
use Rattle.far_air.specs.FarLaws.{shown}
use Rattle.peer_air.specs.PeerFars.{peer_ends}
use Rattle.bench_devices.specs.Device.{device_linked}
use Rattle.bench_devices.specs.Phases.{IsIdle}
use Rattle.bench_devices.specs.Keeping.{Kept, kept, IsSound, IsApart, AreSound, AreTame}
use Rattle.bench_devices.specs.Phases.{IsTidy, AreTidy}
use Rattle.bench_script.specs.DeviceIds.{bytes_of}
use Rattle.bench_devices.proofs.kinds.PeerMade.{busy_made}
use Rattle.bench_world.proofs.tags.Numbers.{UsesFars}
use Rattle.bench_world.proofs.devices.PlacesKept.{served_as}
use Rattle.bench_world.proofs.open_link.LinkKept.{KeepsTalk, locked_talks, busy_talks, keeps_so, open_changed}
use Rattle.bench_world.proofs.devices.Placed.{Upon, beneath, nothing, still_obeyed}
use Rattle.bench_world.proofs.devices.Removing.{is_other}

-- no other device has its identifier, so it is the one that has it
first_with : (before : List Device) (d : Device) (behind : List Device) (id : List ℕ) → device_id d ≡ id → AreSound (map kept (before ++ d ∷ behind)) → device_with id (before ++ d ∷ behind) ≡ Some d
first_with [] d behind id named sound = ap (λ v. if v then Some d else device_with id behind) (ap (λ x. pointwise nat_eq x id) named ∙ pointwise_self id)
first_with (b ∷ before) d behind id named sound =
    ap (λ v. if v then Some b else device_with id (before ++ d ∷ behind)) (is_other b before d behind id named sound.1) ∙ first_with before d behind id named sound.2

-- ... and the one that is changed
changed_behind : (change : Device → Device) (before : List Device) (d : Device) (behind : List Device) (id : List ℕ) → device_id d ≡ id → AreSound (map kept (before ++ d ∷ behind))
    → with_changed change id (before ++ d ∷ behind) ≡ before ++ change d ∷ behind
changed_behind change [] d behind id named sound =
    ap (λ v. if v then change d ∷ behind else d ∷ with_changed change id behind) (ap (λ x. pointwise nat_eq x id) named ∙ pointwise_self id)
changed_behind change (b ∷ before) d behind id named sound =
    ap (λ v. if v then change b ∷ (before ++ d ∷ behind) else b ∷ with_changed change id (before ++ d ∷ behind)) (is_other b before d behind id named sound.1)
    ∙ ap (λ ds. b ∷ ds) (changed_behind change before d behind id named sound.2)

-- A device that is changed so may be placed, too, and has the same identifier.
record StaysPlaced (change : Device → Device) (d : Device) : Type 0 where
  pub same_id : device_id (change d) ≡ device_id d
  pub link : device_linked (change d) ≡ device_linked d
  pub kind : is_tag (change d) ≡ is_tag d
  pub talks : KeepsTalk change d
  pub sound : IsSound (kept d) → IsSound (kept (change d))
  pub tidy : IsTidy d → IsTidy (change d)

-- one with one block more locked
locked_stays : (block : ℕ) (d : Device) → StaysPlaced (device_locked block) d
locked_stays block (T2 d) = record { same_id = refl; link = refl; kind = refl; talks = locked_talks block (T2 d); sound = λ s. s; tidy = λ t. t }
locked_stays block (T4 d) = record { same_id = refl; link = refl; kind = refl; talks = locked_talks block (T4 d); sound = λ s. s; tidy = λ t. t }
locked_stays block (Peer d) = record { same_id = refl; link = refl; kind = refl; talks = locked_talks block (Peer d); sound = λ s. s; tidy = λ t. t }
locked_stays block (T5 p) = record { same_id = refl; link = refl; kind = refl; talks = locked_talks block (T5 p); sound = λ s. s; tidy = λ t. t }
locked_stays block (T3 p) = record { same_id = refl; link = refl; kind = refl; talks = locked_talks block (T3 p); sound = λ s. s; tidy = λ t. t }

-- one that asks for more time, no more often and by no greater value than it may
busy_stays : (count times : ℕ) (d : Device) → count ≤ most_busy → (1 ≤ times) × (times ≤ longest_extension) → StaysPlaced (device_busy count times) d
busy_stays count times (T2 d) few long = record { same_id = refl; link = refl; kind = refl; talks = busy_talks count times few long (T2 d); sound = λ s. s; tidy = λ t. t }
busy_stays count times (T4 d) few long = record {
  same_id = refl;
  link = refl;
  kind = refl;
  talks = busy_talks count times few long (T4 d);
  sound = λ s. (s.0, s.1, s.2, s.3, s.4, record { made = refl; busy = few; times = long });
  tidy = λ t. t;
}
busy_stays count times (Peer d) few long = record {
  same_id = refl;
  link = refl;
  kind = refl;
  talks = busy_talks count times few long (Peer d);
  sound = λ s. (s.0, s.1, busy_made d.id d.upper count times few long s.2);
  tidy = λ t. t;
}
busy_stays count times (T5 p) few long = record { same_id = refl; link = refl; kind = refl; talks = busy_talks count times few long (T5 p); sound = λ s. s; tidy = λ t. t }
busy_stays count times (T3 p) few long = record { same_id = refl; link = refl; kind = refl; talks = busy_talks count times few long (T3 p); sound = λ s. s; tidy = λ t. t }

module _ (change : Device → Device) (d : Device) (stays : StaysPlaced change d) (behind : List Device) where
  -- far ends above it are shown as before
  shown_changed : (before : List Device) (os : List (Option FarEnd)) → shown device_linked peer_ends (before ++ change d ∷ behind) os ≡ shown device_linked peer_ends (before ++ d ∷ behind) os
  shown_changed [] os = ap (λ v. by_link peer_ends v (first_far os) ∷ shown device_linked peer_ends behind (later_fars os)) stays.link
  shown_changed (b ∷ before) os = ap (λ xs. by_link peer_ends (device_linked b) (first_far os) ∷ xs) (shown_changed before (later_fars os))

  as_long : (before : List Device) → length (before ++ d ∷ behind) ≡ length (before ++ change d ∷ behind)
  as_long [] = refl
  as_long (b ∷ before) = ap suc (as_long before)

  same_kinds : (before : List Device) → map is_tag (before ++ change d ∷ behind) ≡ map is_tag (before ++ d ∷ behind)
  same_kinds [] = ap (λ v. v ∷ map is_tag behind) stays.kind
  same_kinds (b ∷ before) = ap (λ vs. is_tag b ∷ vs) (same_kinds before)

  all_apart : (k : Kept) (before : List Device) → AllByRecursion (IsApart k) (map kept (before ++ d ∷ behind)) → AllByRecursion (IsApart k) (map kept (before ++ change d ∷ behind))
  all_apart k [] h = ((λ e. h.0 (sym stays.same_id ∙ e)), h.1)
  all_apart k (b ∷ before) h = (h.0, all_apart k before h.1)

  all_sound : (before : List Device) → AreSound (map kept (before ++ d ∷ behind)) → AreSound (map kept (before ++ change d ∷ behind))
  all_sound [] s =
      let P : List ℕ → Type 0 = λ id. AllByRecursion (λ l. l.fixed.id ≡ id → ⊥) (map kept behind) in
      (stays.sound s.0, subst P (sym stays.same_id) s.1, s.2)
  all_sound (b ∷ before) s = (s.0, all_apart (kept b) before s.1, all_sound before s.2)

  as_many : (before : List Device) → length (map kept (before ++ change d ∷ behind)) ≡ length (map kept (before ++ d ∷ behind))
  as_many [] = refl
  as_many (b ∷ before) = ap suc (as_many before)

  all_tame : (before : List Device) → AreTame (map kept (before ++ d ∷ behind)) → AreTame (map kept (before ++ change d ∷ behind))
  all_tame before t = record { sound = all_sound before t.sound; few = subst (λ n. n ≤ most_devices) (sym (as_many before)) t.few }

  all_tidy : (before : List Device) → AreTidy (before ++ d ∷ behind) → AreTidy (before ++ change d ∷ behind)
  all_tidy [] tidy = (stays.tidy tidy.0, tidy.1)
  all_tidy (b ∷ before) tidy = (tidy.0, all_tidy before tidy.1)

-- a device of these identifier bytes stands at a place
pub stands_there : (old : Air Device) (id : DeviceId) (bytes : List ℕ) (ls : List Device) (place : ℕ) → bytes ≡ bytes_of id → ls ≡ old.listeners → StandsAt bytes ls place
    → StandsAt (bytes_of id) old.listeners place
stands_there old id bytes ls place same all s =
    let P : List ℕ → Type 0 = λ b. StandsAt b ls place in
    subst (λ xs. StandsAt (bytes_of id) xs place) all (subst P same s)

-- A device with this identifier stands at a place in an idle field.
module _ (old : Air Device) (id : DeviceId) (place : ℕ) (idle : IsIdle old) (s : StandsAt (bytes_of id) old.listeners place) where
  sound : AreSound (map kept (s.before ++ s.device ∷ s.behind))
  sound = subst (λ ls. AreSound (map kept ls)) s.split idle.tame.sound

  -- what is read at the place is this device
  pub at_place : (ls : List Device) (d : Device) → ls ≡ old.listeners → d ≡ slice_index_or ls place d → d ≡ s.device
  at_place ls d all is =
      is ∙ ap (λ xs. slice_index_or xs place d) (all ∙ s.split) ∙ ap (λ i. slice_index_or (s.before ++ s.device ∷ s.behind) i d) (sym s.at) ∙ get_or-append_seam s.before s.device s.behind d

  -- it is the device that has the identifier
  pub has_id : device_with (bytes_of id) old.listeners ≡ Some s.device
  has_id = ap (device_with (bytes_of id)) s.split ∙ first_with s.before s.device s.behind (bytes_of id) s.named sound

  -- what holds of the device with the identifier holds of it, and the other way
  pub of_placed : (P : Device → Type 0) → P s.device → OfPlaced P (device_with (bytes_of id) old.listeners)
  of_placed P holds = subst (OfPlaced P) (sym has_id) holds

  pub of_device : (P : Device → Type 0) → OfPlaced P (device_with (bytes_of id) old.listeners) → P s.device
  of_device P holds = subst (OfPlaced P) has_id holds

  -- it was changed so by a command that is done
  device_changed : (new : Air Device) (c : Command) (change : Device → Device) → (UsesFars c → ⊥) → StaysPlaced change s.device → ((os : Upon) → Accepts (state_at (beneath os old)) c)
      → ((os : Upon) → changed (state_at (beneath os old)) c ≡ with_device_changed (state_at (beneath os old)) id change)
      → ((os : Upon) → IsAskedBy (state_at (beneath os old)) c []) → ((os : Upon) → due (state_at (beneath os old)) nothing c [] ≡ Over)
      → ((os : Upon) → AnswerLaw (state_at (beneath os old)) nothing c [] Done)
      → new ≡ record { lit = old.lit; listeners = slice_set old.listeners place (change s.device); fates = old.fates; trace = old.trace } → ObeyedBelow old new c Done
  device_changed new c change quiet stays accepted changes asks over answered is = λ ends peers link places keeps.
      let os : Upon = record { ends = ends; peers = peers; link = link } in
      let O : Air Device → Type 0 = λ a. Obeyed (beneath os old) (beneath os a) c Done in
      let F : List Device → Air Device = λ ls. record { lit = old.lit; listeners = ls; fates = old.fates; trace = old.trace } in
      let now : List Device = s.before ++ change s.device ∷ s.behind in
      let left : slice_set old.listeners place (change s.device) ≡ now =
      ap (λ ls. slice_set ls place (change s.device)) s.split ∙ ap (λ i. slice_set (s.before ++ s.device ∷ s.behind) i (change s.device)) (sym s.at)
      ∙ set-append_seam s.before s.device s.behind (change s.device) in
      let same : with_changed change (bytes_of id) old.listeners ≡ now =
      ap (with_changed change (bytes_of id)) s.split ∙ changed_behind change s.before s.device s.behind (bytes_of id) s.named sound in
      let fars : shown device_linked peer_ends now os.ends ≡ shown device_linked peer_ends old.listeners os.ends =
      shown_changed change s.device stays s.behind s.before os.ends ∙ ap (λ ls. shown device_linked peer_ends ls os.ends) (sym s.split) in
      let S : List Device → List (Option FarEnd) → State = λ ls xs. record {
        world = record { field = record { lit = old.lit; listeners = ls }; fars = xs; numbers = [] };
        queue = old.fates;
        peers = os.peers;
        link = os.link;
      } in
      let as_many : length old.listeners ≡ length now = ap length s.split ∙ as_long change s.device stays s.behind s.before in
      subst O (sym (is ∙ ap F left))
      (still_obeyed (beneath os old) (beneath os (F now)) c Done idle (accepted os)
      (ap (S now) fars ∙ ap (λ ls. S ls (shown device_linked peer_ends old.listeners os.ends)) (sym same) ∙ sym (changes os)) refl (asks os) (over os) (answered os)
      (all_tame change s.device stays s.behind s.before (subst (λ ls. AreTame (map kept ls)) s.split idle.tame))
      (all_tidy change s.device stays s.behind s.before (subst AreTidy s.split idle.tidy))
      (record {
        ends = places.ends ∙ as_many;
        numbers = places.numbers ∙ as_many;
        served = served_as old.listeners now os.peers.numbers os.ends (same_kinds change s.device stays s.behind s.before ∙ ap (map is_tag) (sym s.split)) places.served;
        apart = places.apart;
      })
      (keeps_so (beneath os old) (beneath os (F now)) refl (λ l at o. open_changed old (F now) os.ends os.peers l change s.before s.device s.behind stays.talks s.split refl refl o) keeps) quiet)

  -- a block of it was locked
  pub block_locked : (new : Air Device) (block : ℕ) → block < blocks_of s.device
      → new ≡ record { lit = old.lit; listeners = slice_set old.listeners place (device_locked block s.device); fates = old.fates; trace = old.trace } → ObeyedBelow old new (Lock id block) Done
  block_locked new block within is =
      device_changed new (Lock id block) (device_locked block) (λ h. h) (locked_stays block s.device) (λ os. of_placed (λ d. block < blocks_of d) within) (λ os. refl) (λ os. refl) (λ os. refl)
      (λ os. refl) is

  -- it asks for more time from now on
  pub made_busy : (new : Air Device) (count times : ℕ) → may_be_busy s.device ≡ true → count ≤ most_busy → (1 ≤ times) × (times ≤ longest_extension)
      → new ≡ record { lit = old.lit; listeners = slice_set old.listeners place (device_busy count times s.device); fates = old.fates; trace = old.trace }
      → ObeyedBelow old new (Busy id count times) Done
  made_busy new count times may few long is =
      let accepted : (os : Upon) → MayBeBusy (state_at (beneath os old)) id count times =
      λ os. record { device = of_placed (λ d. may_be_busy d ≡ true) may; few = few; long = long } in
      device_changed new (Busy id count times) (device_busy count times) (λ h. h) (busy_stays count times s.device few long) accepted (λ os. refl) (λ os. refl) (λ os. refl) (λ os. refl) is

  -- what it holds was told
  pub memory_told : is_tag s.device ≡ true → ObeyedBelow old old (Dump id) (Store (memory_in s.device))
  memory_told tag = λ ends peers link places keeps.
      let os : Upon = record { ends = ends; peers = peers; link = link } in
      still_obeyed (beneath os old) (beneath os old) (Dump id) (Store (memory_in s.device)) idle (of_placed (λ d. is_tag d ≡ true) tag) refl refl refl refl
      (of_placed (λ d. Store (memory_in s.device) ≡ Store (memory_in d)) refl) idle.tame idle.tidy places keeps (λ h. h)
