-- What a legal step does to the stories of links, command by command.
use Rattle.std.proofs.Common.{◌≡◌, ℕ, suc, ◌+◌, ◌<◌, ◌≤◌, List, [], ◌∷◌, ◌++◌, map, length, Bool, true, false, nat_eq, if◌then◌else◌, Option, Some, None, refl, sym, ◌∙◌, ap, subst, arith}
use Rattle.std.proofs.lemmas.Bool.{ne_eqb, eqb-true}
use Rattle.std.proofs.lemmas.List.{append-nil, length-map}
use Rattle.std.specs.Cmp.Lexicographic.{pointwise}
use Rattle.nfc_base.specs.declared.event.Fate.{Fate}
use Rattle.std.specs.Prelude.{option_map}
use Rattle.snep_core.specs.Server.{Received as Accepted}
use Rattle.bench_devices.specs.declared.device.Device.{Device}
use Rattle.bench_devices.specs.Device.{device_id}
use Rattle.bench_devices.specs.Placed.{without}
use Rattle.bench_world.specs.World.{FarEnd, WholeWorld}
use Rattle.bench_world.specs.Inbox.{came_on_link}
use Rattle.bench_world.specs.Links.{OpenLink, is_number, is_with, ended}
use Rattle.bench_world.specs.Legal.{State, changed, world_at_start}
use Rattle.bench_world.specs.Opened.{AreNumbered}
use Rattle.bench_world.specs.Peers.{Peers, next_number, placed_under, without_place, without_number, with_place_changed}
use Rattle.bench_world.specs.Stories.{Story, Stretch, Beginning, NothingBegins, begins_in, begun_by, puts_in, open_goes_on}
use Rattle.bench_world.proofs.devices.AtNumbers.{Held, adding, held, IfHeld, AreHeld, with_held, held_placed, at_placed, at_new, at_left, still_held, held_without, held_gone, numbered_without}
use Rattle.bench_world.proofs.devices.PeersNumbered.{HavePlaces, places_less}
use Rattle.bench_world.proofs.devices.PlacesKept.{numbered_tag, numbered_peer}
use Rattle.bench_world.proofs.devices.Removing.{as_many_gone}
use Rattle.bench_world.proofs.link_law.StoriesHere.{view_at, view_of, PlacesOf, StandBy, Stand, open_stands, still_stands, ended_closed}
use Rattle.bench_world.proofs.open_link.Unlinking.{same_numbers}
use Rattle.bench_world.proofs.link_law.StoriesStand.{View, at, Closed, Open, IsCovered, closed_still, open_still}
use Rattle.bench_world.proofs.link_law.Tales.{goes_on, stories_behind}

-- the link that is open, if one is, is to a peer with such a number
pub peer_below : (v : View) (n : ℕ) (ys : List Story) → Open v n ys → n < v.placed
peer_below v n ys o = subst (λ m. m < v.placed) o.opened.going.own o.opened.going.fits.below

-- Peers of numbers that stood before hold what they held.
carry : (v w : View) (o : Option OpenLink) (ys : List Story) → AreHeld w.numbers w.held → AreNumbered w.placed w.numbers → w.links ≡ v.links → v.placed ≤ w.placed
    → ((n : ℕ) → n < v.placed → at w n ≡ at v n) → StandBy v o ys → StandBy w o ys
carry v w None ys held apart links more same stand =
    closed_still v w ys held apart links more (λ P n below h. subst (IfHeld P) (sym (same n below)) h) stand
carry v w (Some l) ys held apart links more same stand =
    open_still v w ys held apart links more (λ P n below h. subst (IfHeld P) (sym (same n below)) h) l.peer (same l.peer (peer_below v l.peer ys stand)) stand

pub base_held : (v : View) (o : Option OpenLink) (ys : List Story) → StandBy v o ys → AreHeld v.numbers v.held × AreNumbered v.placed v.numbers
base_held v None ys stand = (stand.base.held, stand.base.apart)
base_held v (Some l) ys stand = (stand.opened.base.held, stand.opened.base.apart)

pub many_held : (ps : List (Option ℕ)) (ks : List (Option Held)) → AreHeld ps ks → length ps ≡ length ks
many_held [] [] all = refl
many_held [] (k ∷ ks) all = absurd all
many_held (p ∷ ps) [] all = absurd all
many_held (p ∷ ps) (k ∷ ks) all = ap suc (many_held ps ks all.1)

-- the link is the same before and behind, and its story too
pub same_link : (s t : State) (x : Stretch) (ys : List Story) → Stand s ys → puts_in x.command x.told ≡ [] → begins_in x ≡ NothingBegins → (changed s x.command).link ≡ s.link → t.link ≡ s.link
    → PlacesOf t → ((l : OpenLink) → s.link ≡ Some l → at (view_of t) l.peer ≡ at (view_of s) l.peer)
    → (StandBy (view_of s) s.link ys → StandBy (view_of t) s.link ys) → Stand t (stories_behind s x t ys)
same_link s t x ys stand puts world_at_start still same places own moves =
    let zs : List Story = open_goes_on s.link (goes_on s x t) ys in
    let told : stories_behind s x t ys ≡ zs =
    ap (λ (b : Beginning). open_goes_on (changed s x.command).link (goes_on s x t) ys ++ begun_by b (goes_on s x t) s t) world_at_start
    ∙ append-nil (open_goes_on (changed s x.command).link (goes_on s x t) ys)
    ∙ ap (λ o. open_goes_on o (goes_on s x t) ys) still in
    let stands : StandBy (view_of t) s.link zs = still_stands s t x ys (view_of t) s.link (moves stand.stand) puts own in
    subst (Stand t) (sym told) (record { places = places; stand = subst (λ o. StandBy (view_of t) o zs) (sym same) stands })

-- no link is open in the stretch, nor behind it
pub no_link : (s t : State) (x : Stretch) (ys : List Story) → begins_in x ≡ NothingBegins → (changed s x.command).link ≡ None → t.link ≡ None
    → PlacesOf t → Closed (view_of t) ys → Stand t (stories_behind s x t ys)
no_link s t x ys world_at_start none gone places closed =
    let told : stories_behind s x t ys ≡ ys =
    ap (λ (b : Beginning). open_goes_on (changed s x.command).link (goes_on s x t) ys ++ begun_by b (goes_on s x t) s t) world_at_start
    ∙ append-nil (open_goes_on (changed s x.command).link (goes_on s x t) ys)
    ∙ ap (λ o. open_goes_on o (goes_on s x t) ys) none in
    subst (Stand t) (sym told) (record { places = places; stand = subst (λ o. StandBy (view_of t) o ys) (sym gone) closed })

-- as many as before
pub as_many_offered : (change : FarEnd → FarEnd) (id : List ℕ) (ds : List Device) (os : List (Option FarEnd)) → length os ≡ length ds → length (with_place_changed change id ds os) ≡ length os
as_many_offered change id [] os same = refl
as_many_offered change id (d ∷ ds) [] same = absurd cc
as_many_offered change id (d ∷ ds) (o ∷ os) same = by (pointwise nat_eq (device_id d) id) (as_many_offered change id ds os cc)
  where
    by : (v : Bool) → length (with_place_changed change id ds os) ≡ length os
        → length (if v then option_map change o ∷ os else o ∷ with_place_changed change id ds os) ≡ suc (length os)
    by true e = refl
    by false e = ap suc e

pub as_many_held : (os ps : List (Option FarEnd)) → map held os ≡ map held ps → length os ≡ length ps
as_many_held os ps same = sym (length-map os held) ∙ ap length same ∙ length-map ps held

pub as_many_with : (more : List Accepted) (n : ℕ) (ps : List (Option ℕ)) (ks : List (Option Held)) → AreHeld ps ks → length (with_held more n ps ks) ≡ length ks
as_many_with more n [] ks all = refl
as_many_with more n (p ∷ ps) [] all = absurd all
as_many_with more n (p ∷ ps) (k ∷ ks) all = by (is_number n p) (as_many_with more n ps ks all.1)
  where
    by : (v : Bool) → length (with_held more n ps ks) ≡ length ks → length (if v then adding more k ∷ ks else k ∷ with_held more n ps ks) ≡ suc (length ks)
    by true e = refl
    by false e = ap suc e

-- one device more: a tag, and a peer
module _ (s : State) (ys : List Story) (stand : Stand s ys) where
  abbrev here : View
  here = view_of s

  abbrev pub tag_more : View
  tag_more = record { numbers = here.numbers ++ None ∷ []; placed = here.placed; links = here.links; held = here.held ++ None ∷ [] }

  bases : AreHeld here.numbers here.held × AreNumbered here.placed here.numbers
  bases = base_held here s.link ys stand.stand

  pub same_tag : (n : ℕ) → at tag_more n ≡ at here n
  same_tag n = at_placed n here.numbers here.held None None bases.0 refl

  pub tag_stands : StandBy here s.link ys → StandBy tag_more s.link ys
  tag_stands = carry here tag_more s.link ys (held_placed here.numbers here.held None None bases.0 tt) (numbered_tag here.placed here.numbers bases.1) refl (omega arith)
      (λ n below. same_tag n)

  module _ (k : Held) (fresh : k.accepted ≡ []) where
    abbrev pub peer_more : View
    peer_more = record { numbers = here.numbers ++ Some here.placed ∷ []; placed = here.placed + 1; links = here.links; held = here.held ++ Some k ∷ [] }

    other_peer : (n : ℕ) → nat_eq here.placed n ≡ false → at peer_more n ≡ at here n
    other_peer n other = at_placed n here.numbers here.held (Some here.placed) (Some k) bases.0 other

    pub same_peer : (n : ℕ) → n < here.placed → at peer_more n ≡ at here n
    same_peer n below = other_peer n (ne_eqb here.placed n (λ same. omega (arith, below, same)))

    pub covered_peer : (p : ℕ) → IsCovered here p → IsCovered peer_more p
    covered_peer p covered = by (nat_eq here.placed p) refl
      where
        none_yet : (n : ℕ) → n < length k.accepted → came_on_link here.links p n ≡ true
        none_yet n within = let none : length k.accepted ≡ 0 = ap length fresh in absurd (omega (arith, within, none))

        by : (v : Bool) → nat_eq here.placed p ≡ v → IsCovered peer_more p
        by true e =
            let same : here.placed ≡ p = eqb-true here.placed p e in
            let found : at peer_more p ≡ Some k = ap (at peer_more) (sym same) ∙ at_new here.placed here.numbers here.held (Some k) bases.0 bases.1 in
            subst (IfHeld (λ h. (n : ℕ) → n < length h.accepted → came_on_link here.links p n ≡ true)) (sym found) none_yet
        by false e = subst (IfHeld (λ h. (n : ℕ) → n < length h.accepted → came_on_link here.links p n ≡ true)) (sym (other_peer p e)) covered

    pub peer_stands : StandBy here s.link ys → StandBy peer_more s.link ys
    peer_stands = carry here peer_more s.link ys (held_placed here.numbers here.held (Some here.placed) (Some k) bases.0 tt) (numbered_peer here.placed here.numbers bases.1) refl (omega arith)
        same_peer

  pub many_numbers : length here.numbers ≡ length s.world.field.listeners
  many_numbers = many_held here.numbers here.held bases.0 ∙ length-map s.world.fars held ∙ stand.places.fars

  pub own_below : (l : OpenLink) → s.link ≡ Some l → l.peer < here.placed
  own_below l is = peer_below here l.peer ys (subst (λ o. StandBy here o ys) is stand.stand)

-- One less: a peer that the open link isn't to.
abbrev view_less : View → List ℕ → List Device → View
view_less v id ds = record { numbers = without_place id ds v.numbers; placed = v.placed; links = v.links; held = without_place id ds v.held }

module _ (v : View) (ys : List Story) (id : List ℕ) (ds : List Device) where
  abbrev view_without : View
  view_without = view_less v id ds

  module _ (held : AreHeld v.numbers v.held) (apart : AreNumbered v.placed v.numbers) where
    still_there : (P : Held → Type 0) (n : ℕ) → IfHeld P (at v n) → IfHeld P (at view_without n)
    still_there P n h = still_held P n v.placed id ds v.numbers v.held held apart h

    pub covered_less : (p : ℕ) → IsCovered v p → IsCovered view_without p
    covered_less p covered = still_there (λ k. (n : ℕ) → n < length k.accepted → came_on_link v.links p n ≡ true) p covered

  pub closed_less : Closed v ys → Closed view_without ys
  closed_less c =
      closed_still v view_without ys (held_without id ds v.numbers v.held c.base.held) (numbered_without v.placed id ds v.numbers c.base.apart) refl (omega arith)
      (λ P n below h. still_there c.base.held c.base.apart P n h) c

  pub same_less : (n : ℕ) → AreHeld v.numbers v.held → is_number n (placed_under id ds v.numbers) ≡ false → at view_without n ≡ at v n
  same_less n held other = at_left n id ds v.numbers v.held held other

  pub open_less : (n : ℕ) → is_number n (placed_under id ds v.numbers) ≡ false → Open v n ys → Open view_without n ys
  open_less n other o =
      let b = o.opened.base in
      open_still v view_without ys (held_without id ds v.numbers v.held b.held) (numbered_without v.placed id ds v.numbers b.apart) refl (omega arith)
      (λ P m below h. still_there b.held b.apart P m h) n (same_less n b.held other) o

-- A device is taken away, and a link to it ends.
module _ (w : WholeWorld) (q : List Fate) (p : Peers) (c : Stretch) (ys : List Story) where
  abbrev from_state : Option OpenLink → State
  from_state o = record { world = w; queue = q; peers = p; link = o }

  abbrev ds : List Device
  ds = w.field.listeners

  module _ (id : List ℕ) (r : List Fate) where
    abbrev gone_with : Option OpenLink → Bool → State
    gone_with o v = record {
      world = record { field = record { lit = w.field.lit; listeners = without id ds }; fars = without_place id ds w.fars; numbers = [] };
      queue = r;
      peers = without_number id ds w.fars (if v then ended o w.fars p else p);
      link = if v then None else o;
    }

    -- no number is given again
    still_next : (ps : Peers) → next_number (without_number id ds w.fars ps) ≡ next_number ps
    still_next ps = as_many_gone (placed_under id ds ps.numbers) (placed_under id ds w.fars) ps.gone

    pub gone_view : (ps : Peers) → view_less (view_at ps w.fars) id ds ≡ view_at (without_number id ds w.fars ps) (without_place id ds w.fars)
    gone_view ps =
        let V : ℕ → List (Option Held) → View = λ n ks. record { numbers = without_place id ds ps.numbers; placed = n; links = ps.links; held = ks } in
        ap (λ n. V n (without_place id ds (map held w.fars))) (sym (still_next ps)) ∙ ap (V (next_number (without_number id ds w.fars ps))) (sym (held_gone id ds w.fars))

    pub removed_stands : (o : Option OpenLink) (v : Bool) → is_with o (placed_under id ds p.numbers) ≡ v → puts_in c.command c.told ≡ [] → Stand (from_state o) ys
        → Stand (gone_with o v) (open_goes_on (if v then None else o) (goes_on (from_state o) c (gone_with o v)) ys ++ [])
    removed_stands o true is puts stand =
        let closed : Closed (view_at (ended o w.fars p) w.fars) ys = ended_closed o p w.fars ys stand.stand in
        subst (Stand (gone_with o true)) (sym (append-nil ys)) (record {
          places = subst (λ ps. HavePlaces (without id ds) (without_place id ds ps) (without_place id ds w.fars)) (sym (same_numbers o p w.fars)) (places_less id ds p.numbers w.fars stand.places);
          stand = subst (λ x. Closed x ys) (gone_view (ended o w.fars p)) (closed_less (view_at (ended o w.fars p) w.fars) ys id ds closed);
        })
    removed_stands None false is puts stand =
        subst (Stand (gone_with None false)) (sym (append-nil ys)) (record {
          places = places_less id ds p.numbers w.fars stand.places;
          stand = subst (λ x. Closed x ys) (gone_view p) (closed_less (view_at p w.fars) ys id ds stand.stand);
        })
    removed_stands (Some l) false is puts stand =
        let s : State = from_state (Some l) in
        let t : State = gone_with (Some l) false in
        let same : at (view_of t) l.peer ≡ at (view_of s) l.peer =
        ap (λ x. at x l.peer) (sym (gone_view p)) ∙ same_less (view_at p w.fars) ys id ds l.peer stand.stand.opened.base.held is in
        let left : Open (view_of t) l.peer ys = subst (λ x. Open x l.peer ys) (gone_view p) (open_less (view_at p w.fars) ys id ds l.peer is stand.stand) in
        subst (Stand t) (sym (append-nil (open_goes_on (Some l) (goes_on s c t) ys)))
        (record { places = places_less id ds p.numbers w.fars stand.places; stand = open_stands s t c ys (view_of t) l.peer left puts same })
