-- What frames of a script's own do to the stories of links: the open link ends, and one more begins and ends where a peer was activated.
use Rattle.std.proofs.Common.{◌≡◌, ℕ, zero, suc, ◌≤◌, List, [], ◌∷◌, ◌++◌, map, length, Bool, true, false, if◌then◌else◌, Option, Some, None, IsSome, refl, sym, ◌∙◌, ap, subst, arith}
use Rattle.std.specs.Prelude.{get_or, nat_eq, option_map}
use Rattle.std.specs.Cmp.Lexicographic.{pointwise}
use Rattle.std.proofs.lemmas.List.{length-map}
use Rattle.nfc_base.specs.Signal.{Signal}
use Rattle.nfc_base.specs.declared.event.Event.{Event}
use Rattle.nfc_base.specs.declared.event.Fate.{Fate}
use Rattle.far_air.specs.FarEnds.{first_far, later_fars}
use Rattle.snep_core.specs.Server.{Received as Accepted}
use Rattle.bench_script.specs.declared.command.Command.TheVariants.{Raw}
use Rattle.bench_script.specs.declared.command.DeviceId.{DeviceId}
use Rattle.bench_script.specs.DeviceIds.{bytes_of}
use Rattle.bench_devices.specs.declared.device.Device.{Device}
use Rattle.bench_devices.specs.AnyFrame.{peer_place, peers_in}
use Rattle.bench_devices.specs.Device.{device_id, is_tag}
use Rattle.bench_devices.specs.Placed.{OfPlaced, device_with}
use Rattle.bench_devices.proofs.kinds.AnyFrame.{none_counted}
use Rattle.bench_world.specs.declared.entry.Answer.{Answer}
use Rattle.bench_world.specs.Forging.{forged_general}
use Rattle.bench_world.specs.Legal.{State, Joins, IsPeerPlaced, peers_forged}
use Rattle.bench_world.specs.Links.{OpenLink, ended, with_link_if}
use Rattle.bench_world.specs.Opened.{AreNumbered, IsFirstWith}
use Rattle.bench_world.specs.Peers.{Peers, next_number, placed_under}
use Rattle.bench_world.specs.Rawing.{raw_opens}
use Rattle.bench_world.specs.Stories.{BeginsAndEnds, ByRaw, NothingBegins, Story, Stretch}
use Rattle.bench_world.specs.Calls.{with_accepted}
use Rattle.bench_world.specs.World.{WholeWorld, stable}
use Rattle.bench_world.proofs.devices.AtNumbers.{AreHeld, Held, adding, held, more_held, with_held}
use Rattle.bench_world.proofs.devices.PeersNumbered.{HaveNumbers, HavePlaces, number_under}
use Rattle.bench_world.proofs.by_hand.RawGrows.{GrowsAt, adding_at, at_both}
use Rattle.bench_world.proofs.open_link.Restarted.{first_of}
use Rattle.bench_world.proofs.link_law.StoriesHere.{Stand, ended_closed, view_at, view_of}
use Rattle.bench_world.proofs.link_law.StoriesStand.{Closed, View, closed_grows}
use Rattle.bench_world.proofs.link_law.StoriesStep.{base_held, no_link}
use Rattle.bench_world.proofs.link_law.StoriesWithin.{within_stands}
use Rattle.bench_world.proofs.link_law.Tales.{stories_behind}
use Rattle.bench_world.proofs.open_link.Unlinking.{count_ended, same_numbers}

-- A list that gained at a place gained by the number that stands there.
at_place_with : (more : List Accepted) (n place : ℕ) (ps : List (Option ℕ)) (ks : List (Option Held)) → IsFirstWith n place ps → length ps ≡ length ks
    → adding_at more place ks ≡ with_held more n ps ks
at_place_with more n place [] ks first long = absurd first
at_place_with more n place (p ∷ ps) [] first long = absurd cc
at_place_with more n zero (p ∷ ps) (k ∷ ks) first long = sym (ap (λ v. if v then adding more k ∷ ks else k ∷ with_held more n ps ks) first)
at_place_with more n (suc place) (p ∷ ps) (k ∷ ks) first long =
    let less : length ps ≡ length ks = cc in
    ap (λ xs. k ∷ xs) (at_place_with more n place ps ks first.1 less) ∙ sym (ap (λ v. if v then adding more k ∷ ks else k ∷ with_held more n ps ks) first.0)

-- The number at the place of the first peer.
record NumberAt (ps : List (Option ℕ)) (place : ℕ) : Type 0 where
  pub number : ℕ
  pub there : get_or ps place None ≡ Some number

some_number : (ps : List (Option ℕ)) → IsSome (first_far ps) → NumberAt ps 0
some_number [] some = absurd (let clash : false ≡ true = some in cc)
some_number (None ∷ ps) some = absurd (let clash : false ≡ true = some in cc)
some_number (Some n ∷ ps) some = record { number = n; there = refl }

later_number : (ps : List (Option ℕ)) (place : ℕ) → NumberAt (later_fars ps) place → NumberAt ps (suc place)
later_number [] place n = record { number = n.number; there = n.there }
later_number (p ∷ ps) place n = record { number = n.number; there = n.there }

number_at : (ds : List Device) (ps : List (Option ℕ)) (place : ℕ) → peer_place ds ≡ Some place → HaveNumbers ds ps → NumberAt ps place
number_at [] ps place at all = absurd cc
number_at (d ∷ ds) ps place at all = by_tag (is_tag d) refl (λ n there. number_at ds (later_fars ps) n there all.1)
  where
    at_by : (v : Bool) → is_tag d ≡ v → (if v then option_map suc (peer_place ds) else Some 0) ≡ Some place
    at_by v t = sym (ap (λ b. if b then option_map suc (peer_place ds) else Some 0) t) ∙ at

    behind : ((n : ℕ) → peer_place ds ≡ Some n → NumberAt (later_fars ps) n) → (o : Option ℕ) → option_map suc o ≡ Some place → peer_place ds ≡ o → NumberAt ps place
    behind rest None e is = absurd cc
    behind rest (Some n) e is = let same : suc n ≡ place = cc in subst (NumberAt ps) same (later_number ps n (rest n is))

    by_tag : (v : Bool) → is_tag d ≡ v → ((n : ℕ) → peer_place ds ≡ Some n → NumberAt (later_fars ps) n) → NumberAt ps place
    by_tag true t rest = behind rest (peer_place ds) (at_by true t) refl
    by_tag false t rest = let same : 0 ≡ place = (let e : Some 0 ≡ Some place = at_by false t in cc) in subst (NumberAt ps) same (some_number ps (all.0 t))

-- The peer with an identifier is the first one, where no second is placed.
none_with : (id : List ℕ) (ds : List Device) → peer_place ds ≡ None → OfPlaced (λ d. is_tag d ≡ false) (device_with id ds) → ⊥
none_with id [] none peer = peer
none_with id (d ∷ ds) none peer = by_name (pointwise nat_eq (device_id d) id) peer (λ nobody there. none_with id ds nobody there)
  where
    none_behind : (o : Option ℕ) → option_map suc o ≡ None → o ≡ None
    none_behind None q = refl
    none_behind (Some n) q = absurd cc

    tag_of : (v : Bool) → is_tag d ≡ v → (v ≡ false → ⊥) × (peer_place ds ≡ None)
    tag_of true t = ((λ e. cc), none_behind (peer_place ds) (sym (ap (λ b. if b then option_map suc (peer_place ds) else Some 0) t) ∙ none))
    tag_of false t = absurd (let clash : Some 0 ≡ None = sym (ap (λ b. if b then option_map suc (peer_place ds) else Some 0) t) ∙ none in cc)

    by_name : (v : Bool) → OfPlaced (λ x. is_tag x ≡ false) (if v then Some d else device_with id ds) → (peer_place ds ≡ None → OfPlaced (λ x. is_tag x ≡ false) (device_with id ds) → ⊥) → ⊥
    by_name true here rest = (tag_of (is_tag d) refl).0 here
    by_name false there rest = rest (tag_of (is_tag d) refl).1 there

record PlacedPeer (id : List ℕ) (ds : List Device) (ps : List (Option ℕ)) : Type 0 where
  pub place : ℕ
  pub at : peer_place ds ≡ Some place
  pub under : placed_under id ds ps ≡ get_or ps place None

first_is : (ps : List (Option ℕ)) → first_far ps ≡ get_or ps 0 None
first_is [] = refl
first_is (p ∷ ps) = refl

later_is : (ps : List (Option ℕ)) (n : ℕ) → get_or (later_fars ps) n None ≡ get_or ps (suc n) None
later_is [] n = refl
later_is (p ∷ ps) n = refl

placed_peer : (id : List ℕ) (ds : List Device) (ps : List (Option ℕ)) → peers_in ds ≤ 1 → OfPlaced (λ d. is_tag d ≡ false) (device_with id ds) → PlacedPeer id ds ps
placed_peer id [] ps few peer = absurd peer
placed_peer id (d ∷ ds) ps few peer = by_name (pointwise nat_eq (device_id d) id) refl peer (λ less there. placed_peer id ds (later_fars ps) less there)
  where
    count : (v : Bool) → is_tag d ≡ v → (if v then peers_in ds else suc (peers_in ds)) ≤ 1
    count v t = subst (λ b. (if b then peers_in ds else suc (peers_in ds)) ≤ 1) t few

    place_by : (v : Bool) → is_tag d ≡ v → peer_place (d ∷ ds) ≡ (if v then option_map suc (peer_place ds) else Some 0)
    place_by v t = ap (λ b. if b then option_map suc (peer_place ds) else Some 0) t

    later : (peers_in ds ≤ 1 → OfPlaced (λ x. is_tag x ≡ false) (device_with id ds) → PlacedPeer id ds (later_fars ps)) → pointwise nat_eq (device_id d) id ≡ false
        → OfPlaced (λ x. is_tag x ≡ false) (device_with id ds) → (v : Bool) → is_tag d ≡ v → PlacedPeer id (d ∷ ds) ps
    later more other there true t =
        let rest : PlacedPeer id ds (later_fars ps) = more (count true t) there in
        record {
          place = suc rest.place;
          at = place_by true t ∙ ap (option_map suc) rest.at;
          under = ap (λ v. if v then first_far ps else placed_under id ds (later_fars ps)) other ∙ rest.under ∙ later_is ps rest.place;
        }
    later more other there false t = absurd (none_with id ds (none_counted ds (let one : suc (peers_in ds) ≤ 1 = count false t in omega arith)) there)

    by_name : (v : Bool) → pointwise nat_eq (device_id d) id ≡ v → OfPlaced (λ x. is_tag x ≡ false) (if v then Some d else device_with id ds)
        → (peers_in ds ≤ 1 → OfPlaced (λ x. is_tag x ≡ false) (device_with id ds) → PlacedPeer id ds (later_fars ps)) → PlacedPeer id (d ∷ ds) ps
    by_name true named here more = record { place = 0; at = place_by false here; under = ap (λ v. if v then first_far ps else placed_under id ds (later_fars ps)) named ∙ first_is ps }
    by_name false other there more = later more other there (is_tag d) refl

-- Frames were sent, from a state to one in which no link is open.
module _ (w : WholeWorld) (q : List Fate) (p : Peers) (ys : List Story) (o : Option OpenLink) (stand : Stand (record { world = w; queue = q; peers = p; link = o }) ys) (joins : Joins)
    (told : Option Answer)
    (id : DeviceId) (frames : List Signal) (es : List Event) (few : peers_in w.field.listeners ≤ 1) where
  abbrev from : State
  from = record { world = w; queue = q; peers = p; link = o }

  abbrev x : Stretch
  x = record { command = Raw id frames; joins = joins; events = es; told = told }

  abbrev ds : List Device
  ds = w.field.listeners

  abbrev before : Peers
  before = ended o w.fars p

  numbers : before.numbers ≡ p.numbers
  numbers = same_numbers o p w.fars

  closed : Closed (view_at before w.fars) ys
  closed = ended_closed o p w.fars ys stand.stand

  apart : AreNumbered (next_number p) p.numbers
  apart = (base_held (view_of from) o ys stand.stand).1

  many_held : length p.numbers ≡ length (map held w.fars)
  many_held = many_so p.numbers (map held w.fars) (base_held (view_of from) o ys stand.stand).0
    where
      many_so : (ps : List (Option ℕ)) (ks : List (Option Held)) → AreHeld ps ks → length ps ≡ length ks
      many_so [] [] all = refl
      many_so [] (k ∷ ks) all = absurd all
      many_so (n ∷ ps) [] all = absurd all
      many_so (n ∷ ps) (k ∷ ks) all = ap suc (many_so ps ks all.1)

  -- what a list gained at the place of the peer, it gained by its number
  by_number : (place n : ℕ) (more : List Accepted) (now : List (Option Held)) → get_or p.numbers place None ≡ Some n → now ≡ adding_at more place (map held w.fars)
      → now ≡ with_held more n before.numbers (map held w.fars)
  by_number place n more now there is =
      is ∙ at_place_with more n place p.numbers (map held w.fars) (first_of (next_number p) n place p.numbers apart there) many_held
      ∙ ap (λ ns. with_held more n ns (map held w.fars)) (sym numbers)

  -- A list that gained something, and then more by its number, gained both.
  pub halted_grows : (mid now : WholeWorld) (place n : ℕ) (more : List Accepted) → peer_place ds ≡ Some place → get_or p.numbers place None ≡ Some n → length mid.fars ≡ length w.fars
      → GrowsAt (peer_place ds) (map held w.fars) (map held mid.fars) → (stable now).ends ≡ with_accepted more n p.numbers (stable mid).ends
      → GrowsAt (peer_place ds) (map held w.fars) (map held now.fars)
  halted_grows mid now place n more there numbered many grows ends =
      let g : (a : List Accepted) × (map held mid.fars ≡ adding_at a place (map held w.fars)) = subst (λ k. GrowsAt k (map held w.fars) (map held mid.fars)) there grows in
      let long : length p.numbers ≡ length (map held mid.fars) = many_held ∙ length-map w.fars held ∙ sym many ∙ sym (length-map mid.fars held) in
      let at : adding_at more place (map held mid.fars) ≡ with_held more n p.numbers (map held mid.fars) =
      at_place_with more n place p.numbers (map held mid.fars) (first_of (next_number p) n place p.numbers apart numbered) long in
      let whole : map held now.fars ≡ adding_at (g.0 ++ more) place (map held w.fars) =
      more_held now mid more n p.numbers ends ∙ sym at ∙ ap (adding_at more place) g.1 ∙ at_both g.0 more place (map held w.fars) in
      subst (λ k. GrowsAt k (map held w.fars) (map held now.fars)) (sym there) (g.0 ++ more, whole)

  module _ (t : State) (grows : GrowsAt (peer_place ds) (map held w.fars) (map held t.world.fars)) (peers : t.peers ≡ peers_forged (raw_opens id frames es) from id t.world.fars) (gone : t.link ≡ None)
      (places : HavePlaces t.world.field.listeners p.numbers t.world.fars) (peer : raw_opens id frames es ≡ true → IsPeerPlaced from id) where
    -- a link began and ended
    sent : raw_opens id frames es ≡ true → Stand t (stories_behind from x t ys)
    sent opened =
        let here : PlacedPeer (bytes_of id) ds p.numbers = placed_peer (bytes_of id) ds p.numbers few (peer opened) in
        let number = number_under (bytes_of id) ds p.numbers stand.places.numbers (peer opened) in
        let there : get_or p.numbers here.place None ≡ Some number.0 = sym here.under ∙ number.1 in
        let gained : (more : List Accepted) × (map held t.world.fars ≡ adding_at more here.place (map held w.fars)) = subst (λ k. GrowsAt k (map held w.fars) (map held t.world.fars)) here.at grows in
        let behind : t.peers ≡ with_link_if (Some number.0) w.fars t.world.fars before =
        peers ∙ ap (λ v. peers_forged v from id t.world.fars) opened ∙ ap (λ n. with_link_if n w.fars t.world.fars before) number.1 in
        within_stands from t x ys before (bytes_of id) forged_general ByRaw (λ y. tt) closed numbers (count_ended o p w.fars) number.0 number.1 gained.0
        (by_number here.place number.0 gained.0 (map held t.world.fars) there gained.1) behind refl
        (ap (λ v. if v then BeginsAndEnds ByRaw (bytes_of id) forged_general else NothingBegins) opened) refl gone
        (subst (λ ns. HavePlaces t.world.field.listeners ns t.world.fars) (sym (ap (λ (z : Peers). z.numbers) behind ∙ numbers)) places)

    -- or none did, and a list may have gained beside all links
    left_closed : (k : Option ℕ) → peer_place ds ≡ k → GrowsAt k (map held w.fars) (map held t.world.fars) → Closed (view_at before t.world.fars) ys
    left_closed None at g =
        let V : List (Option Held) → View = λ ks. record { numbers = before.numbers; placed = next_number before; links = before.links; held = ks } in
        subst (λ ks. Closed (V ks) ys) (sym g) closed
    left_closed (Some place) at g =
        let V : List (Option Held) → View = λ ks. record { numbers = before.numbers; placed = next_number before; links = before.links; held = ks } in
        let n : NumberAt p.numbers place = number_at ds p.numbers place at stand.places.numbers in
        subst (λ ks. Closed (V ks) ys) (sym (by_number place n.number g.0 (map held t.world.fars) n.there g.1)) (closed_grows (view_at before w.fars) n.number ys closed g.0)

    unsent : raw_opens id frames es ≡ false → Stand t (stories_behind from x t ys)
    unsent unopened =
        let behind : t.peers ≡ before = peers ∙ ap (λ v. peers_forged v from id t.world.fars) unopened in
        no_link from t x ys (ap (λ v. if v then BeginsAndEnds ByRaw (bytes_of id) forged_general else NothingBegins) unopened) refl gone
        (subst (λ ns. HavePlaces t.world.field.listeners ns t.world.fars) (sym (ap (λ (z : Peers). z.numbers) behind ∙ numbers)) places)
        (subst (λ z. Closed (view_at z t.world.fars) ys) (sym behind) (left_closed (peer_place ds) refl grows))

    pub raw_stands : Stand t (stories_behind from x t ys)
    raw_stands = by (raw_opens id frames es) refl
      where
        by : (v : Bool) → raw_opens id frames es ≡ v → Stand t (stories_behind from x t ys)
        by true opened = sent opened
        by false unopened = unsent unopened
