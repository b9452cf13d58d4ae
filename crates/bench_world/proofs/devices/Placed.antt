-- Commands that send nothing: fates are appended, and a tag or a peer is placed.
use Rattle.std.proofs.Common.{◌≡◌, ℕ, ◌*◌, ◌<◌, List, [], ◌∷◌, ◌++◌, map, length, Bool, true, false, Option, Some, None, ◌+◌, slice_index, refl, sym, ◌∙◌, ap, subst, arith, inr}
use Rattle.std.proofs.lemmas.List.{length-map, length-append}
use Rattle.std.specs.List.{AllByRecursion}
use Rattle.nfc_base.specs.declared.event.Event.{Event}
use Rattle.nfc_base.specs.declared.event.Fate.{Fate}
use Rattle.air_core.specs.Turn.{Air}
use Rattle.air_core.specs.Conversation.{Over, receptions}
use Rattle.nfca_poll.specs.Ident.{IsIdent}
use Rattle.t4t_tag.specs.Store.{file_size}
use Rattle.t5t_tag.specs.Store.{id_size}
use Rattle.bench_script.specs.declared.command.Command.{Command}
use Rattle.bench_script.specs.declared.command.Command.TheVariants.{Fates, PlaceT2, PlaceT3, PlaceT4, PlaceT5, PlacePeer}
use Rattle.bench_devices.specs.declared.device.Device.{Device}
use Rattle.bench_world.specs.declared.entry.Answer.{Answer}
use Rattle.bench_world.specs.declared.entry.Answer.TheVariants.{Done}
use Rattle.bench_devices.specs.Device.{device_id, device_ready, device_selected, is_tag, new_t2, new_t3, new_t4, new_t5, new_peer}
use Rattle.bench_world.specs.Legal.{State, Given, no_joins, FrontOf, Accepts, IsAskedBy, IsFree, MayPlaceT2, MayPlaceT3, MayPlaceT4, MayPlaceT5, MayPlacePeer, AnswerLaw, changed, due, memory_of}
use Rattle.bench_devices.specs.Device.{most_devices}
use Rattle.bench_devices.specs.Keeping.{Kept, kept, IsSound, IsApart, AreTame}
use Rattle.bench_devices.specs.Phases.{IsTidy, AreTidy}
use Rattle.bench_world.specs.Obeying.{Machines, under, state_at, HasPlaces, IsSettled, KeepsLink, Obeyed, ObeyedBelow}
use Rattle.bench_world.specs.Links.{OpenLink}
use Rattle.bench_world.specs.World.{FarEnd, with_one_more}
use Rattle.bench_world.specs.Peers.{Peers, with_tag, with_peer, new_end, next_number}
use Rattle.far_air.specs.FarEnds.{by_link}
use Rattle.far_air.specs.FarWorld.{with_numbers}
use Rattle.far_air.specs.FarLaws.{shown}
use Rattle.peer_air.specs.PeerFars.{peer_ends}
use Rattle.bench_devices.specs.Device.{device_linked}
use Rattle.bench_devices.specs.Phases.{IsIdle}
use Rattle.bench_world.specs.Opened.{IsServed, AreServed, AreNumbered}
use Rattle.bench_world.proofs.tags.Numbers.{UsesFars, none_taken}
use Rattle.bench_world.proofs.tags.Fronts.{links_stay}
use Rattle.bench_world.proofs.devices.PlacesKept.{served_more, numbered_tag, numbered_peer}
use Rattle.bench_world.proofs.open_link.LinkKept.{keeps_so, open_on, open_more}
use Rattle.bench_world.proofs.devices.Placing.{map-over, tame_more, tidy_more, none_named}

-- none of these devices has the identifier of another one
pub apart_all : (ls : List Device) (d : Device) → AllByRecursion (λ e. device_id e ≡ device_id d → ⊥) ls → AllByRecursion (λ l. IsApart l (kept d)) (map kept ls)
apart_all [] d none = tt
apart_all (e ∷ ls) d none = ((λ same. none.0 (sym same)), apart_all ls d none.1)

-- the field with one more device
abbrev pub more_by : Air Device → Device → Air Device
more_by a d = record { lit = a.lit; listeners = a.listeners ++ d ∷ []; fates = a.fates; trace = a.trace }

-- what stands above a field
pub record Upon : Type 0 where
  pub ends : List (Option FarEnd)
  pub peers : Peers
  pub link : Option OpenLink

abbrev pub beneath : Upon → Air Device → Machines
beneath u a = under u.ends u.peers u.link a

-- a command that asks nothing
abbrev pub nothing : Given
nothing = record { asked = []; joins = no_joins }

-- a command that changes the machines as it says, and sends nothing
pub still_obeyed : (old new : Machines) (c : Command) (answer : Answer) → IsIdle old.air → Accepts (state_at old) c → state_at new ≡ changed (state_at old) c → new.air.trace ≡ old.air.trace
    → IsAskedBy (state_at old) c [] → due (state_at old) nothing c [] ≡ Over → AnswerLaw (state_at old) nothing c [] answer → AreTame (map kept new.air.listeners) → AreTidy new.air.listeners
    → HasPlaces new → KeepsLink new → (UsesFars c → ⊥) → Obeyed old new c answer
still_obeyed old new c answer idle accepted changes trace asks over law tame tidy places keeps quiet_command =
    let st : State = state_at old in
    let quiet : new.air.trace ≡ [] = trace ∙ idle.quiet in
    let F : List Event → Type 0 = λ es. FrontOf st nothing c es (Some answer) (state_at new) in
    let dropped : State → State = λ s. record { world = with_numbers s.world []; queue = s.queue; peers = s.peers; link = s.link } in
    let front : F [] = record {
      accepted = accepted;
      asks = asks;
      takes = none_taken c;
      turns = record { moves = []; made = refl };
      fates = tt;
      each = tt;
      after = ap dropped changes ∙ sym (links_stay st no_joins c [] (Some answer) quiet_command);
    } in
    record {
      given = nothing;
      joined = refl;
      front = subst F (sym quiet) front;
      over = ap (λ es. due st nothing c (receptions es)) quiet ∙ over;
      answered = subst (λ es. AnswerLaw st nothing c es answer) (sym quiet) law;
      tame = tame;
      tidy = tidy;
      places = places;
      link = keeps;
    }

-- fates were appended
pub fates_added : (old new : Air Device) (fates : List Fate) → IsIdle old → new ≡ record { lit = old.lit; listeners = old.listeners; fates = old.fates ++ fates; trace = old.trace }
    → ObeyedBelow old new (Fates fates) Done
fates_added old new fates idle is = λ ends peers link places keeps.
    let a : Air Device = record { lit = old.lit; listeners = old.listeners; fates = old.fates ++ fates; trace = old.trace } in
    let O : Air Device → Type 0 = λ x. Obeyed (under ends peers link old) (under ends peers link x) (Fates fates) Done in
    subst O (sym is) (still_obeyed (under ends peers link old) (under ends peers link a) (Fates fates) Done idle tt refl refl refl refl refl idle.tame idle.tidy
    (record { ends = places.ends; numbers = places.numbers; served = places.served; apart = places.apart })
    (keeps_so (under ends peers link old) (under ends peers link a) refl (λ l is o. open_on old a ends peers l refl refl o) keeps) (λ h. h))

-- Behind the others, a device and its far end are shown as they are.
shown_more : (ls : List Device) (os : List (Option FarEnd)) (d : Device) (end : Option FarEnd) → by_link peer_ends (device_linked d) end ≡ end → length os ≡ length ls
    → shown device_linked peer_ends (ls ++ d ∷ []) (os ++ end ∷ []) ≡ shown device_linked peer_ends ls os ++ end ∷ []
shown_more [] [] d end rests e = ap (λ o. o ∷ []) rests
shown_more [] (o ∷ os) d end rests e = absurd cc
shown_more (l ∷ ls) [] d end rests e = absurd cc
shown_more (l ∷ ls) (o ∷ os) d end rests e =
    let more : length os ≡ length ls = cc in
    ap (λ xs. by_link peer_ends (device_linked l) o ∷ xs) (shown_more ls os d end rests more)

-- a tag has none
none_shown : (v : Bool) → by_link peer_ends v None ≡ None
none_shown true = refl
none_shown false = refl

one_longer : {X Y : Type 0} (xs : List X) (ys : List Y) (x : X) (y : Y) → length xs ≡ length ys → length (xs ++ x ∷ []) ≡ length (ys ++ y ∷ [])
one_longer xs ys x y e = omega (arith, e, length-append xs (x ∷ []), length-append ys (y ∷ []))

-- the machines with one more device and its far end, and such peers
abbrev pub with_more : Machines → Device → Option FarEnd → Peers → Machines
with_more m d end peers = record { air = more_by m.air d; ends = m.ends ++ end ∷ []; peers = peers; link = m.link }

-- the machines with one more tag
abbrev pub one_more : Machines → Device → Machines
one_more m d = with_more m d None (with_tag m.peers)

-- the state with one more device
abbrev more_in : State → Device → Option FarEnd → Peers → State
more_in s d end peers = record { world = with_one_more s.world d end; queue = s.queue; peers = peers; link = s.link }

-- a command that places a device
place_obeyed : (old : Machines) (c : Command) (d : Device) (end : Option FarEnd) (number : Option ℕ) (peers : Peers) → IsSettled old → Accepts (state_at old) c
    → changed (state_at old) c ≡ more_in (state_at old) d end peers
    → IsAskedBy (state_at old) c [] → due (state_at old) nothing c [] ≡ Over → AnswerLaw (state_at old) nothing c [] Done
    → IsSound (kept d) → IsTidy d → IsFree (state_at old) (device_id d) → by_link peer_ends (device_linked d) end ≡ end
    → peers.numbers ≡ old.peers.numbers ++ number ∷ [] → (is_tag d ≡ false → IsServed number end) → AreNumbered (next_number peers) peers.numbers → device_ready d ≡ false → device_selected d ≡ false
    → (UsesFars c → ⊥) → Obeyed old (with_more old d end peers) c Done
place_obeyed old c d end number peers settled accepted changes asks over law sound tidy free rests more_numbers served apart ready selected quiet =
    let T : List Kept → Type 0 = AreTame in
    let ls : List Device = old.air.listeners in
    let idle : IsIdle old.air = settled.idle in
    let beside : AllByRecursion (λ l. IsApart l (kept d)) (map kept ls) = apart_all ls d (none_named ls (device_id d) free.fresh) in
    let room : length (map kept ls) < most_devices = omega (arith, length-map ls kept, free.room) in
    let S : List (Option FarEnd) → State = λ os. record {
      world = record { field = record { lit = old.air.lit; listeners = ls ++ d ∷ [] }; fars = os; numbers = [] };
      queue = old.air.fates;
      peers = peers;
      link = old.link;
    } in
    let more : length (ls ++ d ∷ []) ≡ length ls + 1 = length-append ls (d ∷ []) in
    let numbers : length old.peers.numbers ≡ length ls = settled.places.numbers in
    let longer : length peers.numbers ≡ length old.peers.numbers + 1 = ap length more_numbers ∙ length-append old.peers.numbers (number ∷ []) in
    let fresh : AllByRecursion (λ x. device_id x ≡ device_id d → ⊥) ls = none_named ls (device_id d) free.fresh in
    still_obeyed old (with_more old d end peers) c Done idle accepted (ap S (shown_more ls old.ends d end rests settled.places.ends) ∙ sym changes) refl asks over law
    (subst T (sym (map-over kept ls (d ∷ []))) (tame_more (map kept ls) (kept d) idle.tame sound beside room))
    (tidy_more ls d idle.tidy tidy) (record {
      ends = one_longer old.ends ls end d settled.places.ends;
      numbers = omega (arith, longer, more, numbers);
      served = subst (λ ps. AreServed (ls ++ d ∷ []) ps (old.ends ++ end ∷ [])) (sym more_numbers)
          (served_more ls d old.peers.numbers number old.ends end numbers settled.places.ends served settled.places.served);
      apart = apart;
    })
    (keeps_so old (with_more old d end peers) refl
    (λ l is o. open_more old.air (more_by old.air d) old.ends old.peers peers l d end number ready selected fresh refl refl more_numbers o) settled.link) quiet

-- a tag has no far end and no number
no_peer : {X : Type 0} → true ≡ false → X
no_peer e = absurd cc

pub t2_placed : (old new : Machines) (id : List ℕ) (blocks : ℕ) (head : List ℕ) → IsSettled old → IsIdent id → MayPlaceT2 (state_at old) id blocks head
    → new ≡ one_more old (new_t2 id (memory_of (4 * blocks) head)) → Obeyed old new (PlaceT2 id blocks head) Done
t2_placed old new id blocks head settled ident may is =
    let d : Device = new_t2 id (memory_of (4 * blocks) head) in
    let O : Machines → Type 0 = λ m. Obeyed old m (PlaceT2 id blocks head) Done in
    subst O (sym is) (place_obeyed old (PlaceT2 id blocks head) d None None (with_tag old.peers) settled may refl refl refl refl (ident, refl, may.store) tt may.free (none_shown (device_linked d))
    refl (λ e. no_peer e) (numbered_tag (next_number old.peers) old.peers.numbers settled.places.apart) refl refl (λ h. h))

pub t3_placed : (old new : Machines) (id : List ℕ) (blocks : ℕ) (head : List ℕ) → IsSettled old → length id ≡ id_size → ((i : ℕ) → slice_index id i < 256) → MayPlaceT3 (state_at old) id blocks head
    → new ≡ one_more old (new_t3 id (memory_of (16 * blocks) head)) → Obeyed old new (PlaceT3 id blocks head) Done
t3_placed old new id blocks head settled eight bytes may is =
    let d : Device = new_t3 id (memory_of (16 * blocks) head) in
    let O : Machines → Type 0 = λ m. Obeyed old m (PlaceT3 id blocks head) Done in
    subst O (sym is) (place_obeyed old (PlaceT3 id blocks head) d None None (with_tag old.peers) settled may refl refl refl refl (eight, bytes, may.store.blocks) tt may.free
    (none_shown (device_linked d)) refl (λ e. no_peer e) (numbered_tag (next_number old.peers) old.peers.numbers settled.places.apart) refl refl (λ h. h))

pub t4_placed : (old new : Machines) (id : List ℕ) (code : ℕ) (container head : List ℕ) → IsSettled old → IsIdent id → MayPlaceT4 (state_at old) id code container head
    → new ≡ one_more old (new_t4 id code container (memory_of (file_size container) head)) → Obeyed old new (PlaceT4 id code container head) Done
t4_placed old new id code container head settled ident may is =
    let file : List ℕ = memory_of (file_size container) head in
    let d : Device = new_t4 id code container file in
    let O : Machines → Type 0 = λ m. Obeyed old m (PlaceT4 id code container head) Done in
    subst O (sym is) (place_obeyed old (PlaceT4 id code container head) d None None (with_tag old.peers) settled may refl refl refl refl
    (ident, file, refl, may.store, refl, record { made = refl; busy = omega arith; times = (omega arith, omega arith) }) (inr refl) may.free (none_shown (device_linked d)) refl (λ e. no_peer e)
    (numbered_tag (next_number old.peers) old.peers.numbers settled.places.apart) refl refl (λ h. h))

pub t5_placed : (old new : Machines) (id : List ℕ) (blocks size : ℕ) (head : List ℕ) → IsSettled old → length id ≡ id_size → ((i : ℕ) → slice_index id i < 256)
    → MayPlaceT5 (state_at old) id blocks size head
    → new ≡ one_more old (new_t5 id size (memory_of (size * blocks) head)) → Obeyed old new (PlaceT5 id blocks size head) Done
t5_placed old new id blocks size head settled eight bytes may is =
    let d : Device = new_t5 id size (memory_of (size * blocks) head) in
    let O : Machines → Type 0 = λ m. Obeyed old m (PlaceT5 id blocks size head) Done in
    subst O (sym is) (place_obeyed old (PlaceT5 id blocks size head) d None None (with_tag old.peers) settled may refl refl refl refl (refl, eight, bytes, may.store) tt may.free
    (none_shown (device_linked d)) refl (λ e. no_peer e) (numbered_tag (next_number old.peers) old.peers.numbers settled.places.apart) refl refl (λ h. h))

pub peer_placed : (old new : Machines) (id : List ℕ) (lr miu window limit : ℕ) → IsSettled old → IsIdent id → MayPlacePeer (state_at old) id lr miu window limit
    → new ≡ with_more old (new_peer id lr miu) (Some (new_end miu window limit)) (with_peer old.peers) → Obeyed old new (PlacePeer id lr miu window limit) Done
peer_placed old new id lr miu window limit settled ident may is =
    let d : Device = new_peer id lr miu in
    let O : Machines → Type 0 = λ m. Obeyed old m (PlacePeer id lr miu window limit) Done in
    subst O (sym is) (place_obeyed old (PlacePeer id lr miu window limit) d (Some (new_end miu window limit)) (Some (next_number old.peers)) (with_peer old.peers) settled may refl refl refl refl
    (ident, refl, record { lr = lr; miu = miu; code = may.code; size = may.size; few = omega arith; some = omega arith; longest = omega arith; made = refl }) (inr refl) may.free refl refl
    (λ e. record { peer = next_number old.peers; numbered = refl; end = new_end miu window limit; stands = refl; miu = may.size; window = may.window; bound = refl })
    (subst (λ n. AreNumbered n (with_peer old.peers).numbers) (sym (length-append old.peers.gone (None ∷ [])))
    (numbered_peer (next_number old.peers) old.peers.numbers settled.places.apart)) refl refl (λ h. h))
