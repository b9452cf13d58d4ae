-- A peer at a place: its server is given a value, and what that accepted is told.
use Rattle.std.proofs.Common.{◌≡◌, ℕ, zero, suc, ◌+◌, ◌^◌, ◌<◌, List, [], ◌∷◌, ◌++◌, length, map, Bool, true, false, nat_eq, if◌then◌else◌, Option, Some, None, refl, sym, ◌∙◌, ap, subst, arith}
use Rattle.std.specs.Prelude.{get_or, slice_set, option_map}
use Rattle.std.proofs.lemmas.List.{length-set}
use Rattle.std.specs.Cmp.Lexicographic.{pointwise}
use Rattle.nfca_poll.proofs.quiet.OneLevel.{pointwise_self}
use Rattle.far_air.specs.FarEnds.{by_link}
use Rattle.far_air.specs.FarLaws.{shown}
use Rattle.peer_air.specs.PeerFars.{peer_ends}
use Rattle.bench_script.specs.declared.command.Command.TheVariants.{Offer, Inbox}
use Rattle.bench_script.specs.declared.command.DeviceId.{DeviceId}
use Rattle.bench_script.specs.DeviceIds.{bytes_of}
use Rattle.bench_devices.specs.declared.device.Device.{Device}
use Rattle.bench_devices.specs.Device.{device_id, device_linked}
use Rattle.bench_devices.specs.Choosing.{StandsAt}
use Rattle.bench_devices.specs.Keeping.{kept, AreSound}
use Rattle.bench_world.specs.declared.entry.Answer.TheVariants.{Done}
use Rattle.bench_world.specs.declared.entry.Answer.TheVariants as answers
use Rattle.bench_world.specs.declared.entry.Received.{Received}
use Rattle.bench_world.specs.Legal.{State, IsPeerPlaced, inbox_now}
use Rattle.bench_world.specs.Obeying.{Machines, state_at, IsSettled, Obeyed, FarAt, linked_at, with_end}
use Rattle.bench_world.specs.declared.inbox.LinkRange.{LinkRange}
use Rattle.bench_world.specs.Peers.{with_place_changed, placed_under, end_offered}
use Rattle.bench_world.specs.Inbox.{inbox_at}
use Rattle.bench_world.specs.World.{FarEnd}
use Rattle.bench_world.proofs.devices.PlacesKept.{served_offered}
use Rattle.bench_world.proofs.open_link.LinkKept.{keeps_so, open_offered}
use Rattle.bench_world.proofs.devices.Placed.{still_obeyed}
use Rattle.bench_world.proofs.devices.Removing.{is_other, under_at, shown_at, shown_long}

-- a change of an end that what stays of it keeps
offered_by_link : (v : Bool) (key value : List ℕ) (o : Option FarEnd) → by_link peer_ends v (option_map (end_offered key value) o) ≡ option_map (end_offered key value) (by_link peer_ends v o)
offered_by_link true key value o = refl
offered_by_link false key value None = refl
offered_by_link false key value (Some l) = refl

-- The server at the place of the device with an identifier is given a value, and so it is in the state.
offered_shown : (key value : List ℕ) (before : List Device) (d : Device) (behind : List Device) (id : List ℕ) (os : List (Option FarEnd)) → device_id d ≡ id
    → AreSound (map kept (before ++ d ∷ behind))
    → length os ≡ length (before ++ d ∷ behind)
    → shown device_linked peer_ends (before ++ d ∷ behind) (slice_set os (length before) (option_map (end_offered key value) (get_or os (length before) None)))
    ≡ with_place_changed (end_offered key value) id (before ++ d ∷ behind) (shown device_linked peer_ends (before ++ d ∷ behind) os)
offered_shown key value [] d behind id [] named sound e = absurd cc
offered_shown key value [] d behind id (o ∷ os) named sound e =
    let change : FarEnd → FarEnd = end_offered key value in
    let rest : List (Option FarEnd) = shown device_linked peer_ends behind os in
    let here : Option FarEnd = by_link peer_ends (device_linked d) o in
    ap (λ x. x ∷ rest) (offered_by_link (device_linked d) key value o)
    ∙ sym (ap (λ v. if v then option_map change here ∷ rest else here ∷ with_place_changed change id behind rest) (ap (λ x. pointwise nat_eq x id) named ∙ pointwise_self id))
offered_shown key value (b ∷ before) d behind id [] named sound e = absurd cc
offered_shown key value (b ∷ before) d behind id (o ∷ os) named sound e =
    let more : length os ≡ length (before ++ d ∷ behind) = cc in
    let change : FarEnd → FarEnd = end_offered key value in
    let rest : List (Option FarEnd) = shown device_linked peer_ends (before ++ d ∷ behind) os in
    let here : Option FarEnd = by_link peer_ends (device_linked b) o in
    ap (λ xs. here ∷ xs) (offered_shown key value before d behind id os named sound.2 more)
    ∙ sym (ap (λ v. if v then option_map change here ∷ rest else here ∷ with_place_changed change id (before ++ d ∷ behind) rest) (is_other b before d behind id named sound.1))

-- a value was offered
pub value_offered : (old new : Machines) (id : DeviceId) (key value : List ℕ) (place : ℕ) → IsSettled old → IsPeerPlaced (state_at old) id → length value < 2 ^ 32
    → StandsAt (bytes_of id) old.air.listeners place
    → new ≡ with_end old place (option_map (end_offered key value) (get_or old.ends place None)) → Obeyed old new (Offer id key value) Done
value_offered old new id key value place settled peer short s is =
    let O : Machines → Type 0 = λ m. Obeyed old m (Offer id key value) Done in
    let now : ℕ → List (Option FarEnd) = λ n. slice_set old.ends n (option_map (end_offered key value) (get_or old.ends n None)) in
    let all : List Device = s.before ++ s.device ∷ s.behind in
    let sound : AreSound (map kept all) = subst (λ ls. AreSound (map kept ls)) s.split settled.idle.tame.sound in
    let long : length old.ends ≡ length all = settled.places.ends ∙ ap length s.split in
    let fars : shown device_linked peer_ends old.air.listeners (now place) ≡ with_place_changed (end_offered key value) (bytes_of id) old.air.listeners
    (shown device_linked peer_ends old.air.listeners old.ends) =
    ap (λ n. shown device_linked peer_ends old.air.listeners (now n)) (sym s.at) ∙ ap (λ ls. shown device_linked peer_ends ls (now (length s.before))) s.split
    ∙ offered_shown key value s.before s.device s.behind (bytes_of id) old.ends s.named sound long
    ∙ ap (λ ls. with_place_changed (end_offered key value) (bytes_of id) ls (shown device_linked peer_ends ls old.ends)) (sym s.split) in
    let S : List (Option FarEnd) → State = λ os. record {
      world = record { field = record { lit = old.air.lit; listeners = old.air.listeners }; fars = os; numbers = [] };
      queue = old.air.fates;
      peers = old.peers;
      link = old.link;
    } in
    let as_long : length (now place) ≡ length old.ends = length-set old.ends place (option_map (end_offered key value) (get_or old.ends place None)) in
    subst O (sym is)
    (still_obeyed old (with_end old place (option_map (end_offered key value) (get_or old.ends place None))) (Offer id key value) Done settled.idle (record { peer = peer; short = short }) (ap S fars)
    refl refl refl refl settled.idle.tame settled.idle.tidy (record {
      ends = as_long ∙ settled.places.ends;
      numbers = settled.places.numbers;
      served = served_offered key value old.air.listeners old.peers.numbers old.ends place settled.places.served;
      apart = settled.places.apart;
    })
    (keeps_so old (with_end old place (option_map (end_offered key value) (get_or old.ends place None))) refl (λ l at o. open_offered old.air old.ends old.peers l key value place o) settled.link)
    (λ h. h))

-- What a server accepted stays without a link, so the same is told.
inbox_by_link : (links : List LinkRange) (number : Option ℕ) (v : Bool) (o : Option FarEnd) → inbox_at links number (by_link peer_ends v o) ≡ inbox_at links number o
inbox_by_link links number true o = refl
inbox_by_link links None false o = refl
inbox_by_link links (Some n) false None = refl
inbox_by_link links (Some n) false (Some l) = refl

-- what a server accepted was told
pub inbox_told : (old new : Machines) (id : DeviceId) (place : ℕ) (messages : List Received) → IsSettled old → IsPeerPlaced (state_at old) id → StandsAt (bytes_of id) old.air.listeners place
    → new ≡ old
    → messages ≡ inbox_at old.peers.links (get_or old.peers.numbers place None) (get_or old.ends place None) → Obeyed old new (Inbox id) (answers.Inbox messages)
inbox_told old new id place messages settled peer s same is =
    let ls : List Device = old.air.listeners in
    let all : List Device = s.before ++ s.device ∷ s.behind in
    let fars : List (Option FarEnd) = shown device_linked peer_ends all old.ends in
    let links : List LinkRange = old.peers.links in
    let number : Option ℕ = get_or old.peers.numbers (length s.before) None in
    let sound : AreSound (map kept all) = subst (λ xs. AreSound (map kept xs)) s.split settled.idle.tame.sound in
    let long : length old.ends ≡ length all = settled.places.ends ∙ ap length s.split in
    let many : length old.peers.numbers ≡ length all = settled.places.numbers ∙ ap length s.split in
    let here : placed_under (bytes_of id) all old.peers.numbers ≡ number = under_at s.before s.device s.behind (bytes_of id) old.peers.numbers s.named sound many in
    let above : placed_under (bytes_of id) all fars ≡ by_link peer_ends (device_linked s.device) (get_or old.ends (length s.before) None) =
    under_at s.before s.device s.behind (bytes_of id) fars s.named sound (shown_long all old.ends) ∙ shown_at s.before s.device s.behind old.ends long in
    let told : inbox_now (state_at old) id ≡ messages =
    ap (λ xs. inbox_at links (placed_under (bytes_of id) xs old.peers.numbers) (placed_under (bytes_of id) xs (shown device_linked peer_ends xs old.ends))) s.split
    ∙ ap (λ n. inbox_at links n (placed_under (bytes_of id) all fars)) here ∙ ap (inbox_at links number) above
    ∙ inbox_by_link links number (device_linked s.device) (get_or old.ends (length s.before) None)
    ∙ ap (λ n. inbox_at links (get_or old.peers.numbers n None) (get_or old.ends n None)) s.at ∙ sym is in
    let O : Machines → Type 0 = λ m. Obeyed old m (Inbox id) (answers.Inbox messages) in
    subst O (sym same) (still_obeyed old old (Inbox id) (answers.Inbox messages) settled.idle peer refl refl refl refl (ap answers.Inbox (sym told)) settled.idle.tame settled.idle.tidy settled.places
    settled.link (λ h. h))

-- The far end at a place is in the state as it says.
pub far_shown : (ls : List Device) (os : List (Option FarEnd)) (n : ℕ) → n < length ls
    → get_or (shown device_linked peer_ends ls os) n None ≡ by_link peer_ends (linked_at n ls) (get_or os n None)
far_shown [] os n within = absurd (omega (arith, within))
far_shown (l ∷ ls) [] zero within = refl
far_shown (l ∷ ls) (o ∷ os) zero within = refl
far_shown (l ∷ ls) [] (suc n) within = far_shown ls [] n (omega (arith, within))
far_shown (l ∷ ls) (o ∷ os) (suc n) within = far_shown ls os n (omega (arith, within))

pub far_in_state : (m : Machines) (place : ℕ) (end : Option FarEnd) → place < length m.air.listeners → get_or m.ends place None ≡ end → FarAt (state_at m) place end
far_in_state m place end within is = far_shown m.air.listeners m.ends place within ∙ ap (by_link peer_ends (linked_at place m.air.listeners)) is

-- within a list no other item is read
pub any_other : {X : Type 0} (xs : List X) (i : ℕ) (d e : X) → i < length xs → get_or xs i d ≡ get_or xs i e
any_other [] i d e within = absurd (omega (arith, within))
any_other (x ∷ xs) zero d e within = refl
any_other (x ∷ xs) (suc i) d e within = any_other xs i d e (omega (arith, within))
