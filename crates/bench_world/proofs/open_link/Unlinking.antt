-- The open link ends: before a command that begins with a reset, and before its peer is taken away.
use Rattle.std.proofs.Common.{◌≡◌, ℕ, suc, zero, ◌+◌, ◌<◌, List, [], ◌∷◌, ◌++◌, map, length, Bool, true, false, if◌then◌else◌, Option, Some, None, IsSome, refl, sym, ◌∙◌, ap, subst, arith, inl, inr}
use Rattle.std.specs.Prelude.{get_or, drop, slice_set}
use Rattle.nfc_base.specs.declared.event.Event.{Event}
use Rattle.air_core.specs.Turn.{Air}
use Rattle.air_core.specs.Conversation.{Note, receptions, queue_after}
use Rattle.far_air.specs.FarEnds.{first_far, later_fars, by_link}
use Rattle.far_air.specs.FarLaws.{shown}
use Rattle.peer_air.specs.PeerFars.{peer_ends}
use Rattle.bench_script.specs.declared.command.Command.{Command}
use Rattle.bench_script.specs.declared.command.Command.TheVariants.{Remove, Find, Crowd, Poll3, Read, Read3, Write, Write3, Link}
use Rattle.bench_script.specs.declared.command.DeviceId.{DeviceId}
use Rattle.bench_script.specs.declared.command.DeviceId.TheVariants.{A}
use Rattle.bench_script.specs.declared.message.Msg.{Msg}
use Rattle.bench_script.specs.DeviceIds.{bytes_of}
use Rattle.bench_devices.specs.declared.device.Device.{Device}
use Rattle.bench_devices.specs.Choosing.{StandsAt}
use Rattle.bench_devices.specs.Placed.{device_with}
use Rattle.bench_world.specs.Linking.{LinkTells, link_if, own_general}
use Rattle.bench_devices.specs.Device.{device_linked}
use Rattle.bench_devices.specs.Keeping.{kept, AreSound}
use Rattle.bench_world.specs.declared.entry.Answer.{Answer}
use Rattle.bench_world.specs.declared.entry.Answer.TheVariants.{Done}
use Rattle.bench_world.specs.declared.entry.Answer.TheVariants as answers
use Rattle.bench_world.specs.declared.inbox.LinkRange.{LinkRange}
use Rattle.bench_world.specs.World.{FarEnd}
use Rattle.bench_world.specs.Peers.{Peers, placed_under}
use Rattle.bench_world.specs.Links.{OpenLink, accepted_by, end_numbered, is_number, ended, with_last_ended, last_ended, is_with, accepted_at, begun_if}
use Rattle.bench_world.specs.Arriving.{BeginsAt}
use Rattle.bench_world.specs.Calls.{IfLinked}
use Rattle.bench_world.specs.Legal.{State, Given, Joins, IsPlaced, AnswerLaw, FrontOf, CutFront, CutShort, CutStores, due, unlinked, is_linked_to, without_device, world_after, link_after, state_after}
use Rattle.bench_world.specs.Legal.{no_joins}
use Rattle.bench_world.specs.Obeying.{Machines, state_at, HasPlaces, IsSettled, KeepsLink, Obeyed, ObeyedBy, IsCutOff, ObeyedUnlinked, CutOffUnlinked, link_ended, taken_out}
use Rattle.std.proofs.lemmas.List.{length-append}
use Rattle.bench_world.proofs.open_link.LinkKept.{keeps_so, open_less}
use Rattle.bench_world.proofs.devices.Peering.{any_other}
use Rattle.bench_world.proofs.devices.Removing.{removed, under_at}

-- A server has accepted as many messages, whether the state has its far end whole or what stays of it.
pub accepted_by_link : (v : Bool) (o : Option FarEnd) → accepted_by (by_link peer_ends v o) ≡ accepted_by o
accepted_by_link true o = refl
accepted_by_link false None = refl
accepted_by_link false (Some l) = refl

pub accepted_shown : (n : ℕ) (ps : List (Option ℕ)) (ls : List Device) (os : List (Option FarEnd)) → length ps ≡ length ls
    → accepted_by (end_numbered n ps (shown device_linked peer_ends ls os)) ≡ accepted_by (end_numbered n ps os)
accepted_shown n [] ls os e = refl
accepted_shown n (p ∷ ps) [] os e = absurd cc
accepted_shown n (p ∷ ps) (l ∷ ls) os e = let more : length ps ≡ length ls = cc in by_number (is_number n p) (accepted_shown n ps ls (later_fars os) more)
  where
    by_number : (v : Bool) → accepted_by (end_numbered n ps (shown device_linked peer_ends ls (later_fars os))) ≡ accepted_by (end_numbered n ps (later_fars os))
        → accepted_by (if v then by_link peer_ends (device_linked l) (first_far os) else end_numbered n ps (shown device_linked peer_ends ls (later_fars os)))
        ≡ accepted_by (if v then first_far os else end_numbered n ps (later_fars os))
    by_number true more = accepted_by_link (device_linked l) (first_far os)
    by_number false more = more

ended_shown : (o : Option OpenLink) (p : Peers) (ls : List Device) (os : List (Option FarEnd)) → length p.numbers ≡ length ls → ended o os p ≡ ended o (shown device_linked peer_ends ls os) p
ended_shown None p ls os e = refl
ended_shown (Some l) p ls os e = ap (λ n. with_last_ended n p) (sym (accepted_shown l.peer p.numbers ls os e))

-- so machines whose link ends are in the state whose link ends
pub unlinked_state : (m : Machines) → HasPlaces m → state_at (link_ended m) ≡ unlinked (state_at m)
unlinked_state m places =
    let S : Peers → State = λ p. record { world = (state_at m).world; queue = (state_at m).queue; peers = p; link = None } in
    ap S (ended_shown m.link m.peers m.air.listeners m.ends places.numbers)

pub places_ended : (m : Machines) → HasPlaces m → HasPlaces (link_ended m)
places_ended m places = by_link m.link
  where
    by_link : (o : Option OpenLink) → HasPlaces (record { air = m.air; ends = m.ends; peers = ended o m.ends m.peers; link = None })
    by_link None = record { ends = places.ends; numbers = places.numbers; served = places.served; apart = places.apart }
    by_link (Some l) = record { ends = places.ends; numbers = places.numbers; served = places.served; apart = places.apart }

pub settled_ended : (m : Machines) → IsSettled m → IsSettled (link_ended m)
settled_ended m settled = record { idle = settled.idle; stored = settled.stored; places = places_ended m settled.places; link = tt }

-- What a command that begins with a reset does is the same, whether the link ends in it or before it.
pub record IsReset (c : Command) : Type 0 where
  pub front : (s t : State) (g : Given) (es : List Event) (told : Option Answer) → FrontOf (unlinked s) g c es told t → FrontOf s g c es told t
  pub next : (s : State) (g : Given) (ns : List Note) → due s g c ns ≡ due (unlinked s) g c ns
  pub law : (s : State) (g : Given) (es : List Event) (answer : Answer) → AnswerLaw (unlinked s) g c es answer → AnswerLaw s g c es answer
  pub stores : (s : State) (joins : Joins) (es : List Event) → CutStores (unlinked s) joins c es → CutStores s joins c es

pub find_resets : IsReset Find
find_resets = record {
  front = λ s t g es told f. record { accepted = f.accepted; asks = f.asks; takes = f.takes; turns = f.turns; fates = f.fates; each = f.each; after = f.after };
  next = λ s g ns. refl;
  law = λ s g es answer l. record { tells = l.tells; stays = l.stays };
  stores = λ s joins es stays. stays;
}

pub crowd_resets : IsReset Crowd
crowd_resets = record {
  front = λ s t g es told f. record { accepted = f.accepted; asks = f.asks; takes = f.takes; turns = f.turns; fates = f.fates; each = f.each; after = f.after };
  next = λ s g ns. refl;
  law = λ s g es answer l. record { tells = l.tells; stays = l.stays };
  stores = λ s joins es stays. stays;
}

pub sense_resets : IsReset Poll3
sense_resets = record {
  front = λ s t g es told f. record { accepted = f.accepted; asks = f.asks; takes = f.takes; turns = f.turns; fates = f.fates; each = f.each; after = f.after };
  next = λ s g ns. refl;
  law = λ s g es answer l. record { tells = l.tells; stays = l.stays };
  stores = λ s joins es stays. stays;
}

pub read_resets : (id : DeviceId) → IsReset (Read id)
read_resets id = record {
  front = λ s t g es told f. record { accepted = f.accepted; asks = f.asks; takes = f.takes; turns = f.turns; fates = f.fates; each = f.each; after = f.after };
  next = λ s g ns. refl;
  law = λ s g es answer l. record { tells = l.tells; stays = l.stays };
  stores = λ s joins es stays. stays;
}

pub write_resets : (id : DeviceId) (m : Msg) → IsReset (Write id m)
write_resets id m = record {
  front = λ s t g es told f. record { accepted = f.accepted; asks = f.asks; takes = f.takes; turns = f.turns; fates = f.fates; each = f.each; after = f.after };
  next = λ s g ns. refl;
  law = λ s g es answer l. record { tells = l.tells; stores = record { law = l.stores.law; others = l.stores.others; ends = l.stores.ends } };
  stores = λ s joins es l. record { law = l.law; others = l.others; ends = l.ends };
}

pub read_three_resets : (id : List ℕ) → IsReset (Read3 id)
read_three_resets id = record {
  front = λ s t g es told f. record { accepted = f.accepted; asks = f.asks; takes = f.takes; turns = f.turns; fates = f.fates; each = f.each; after = f.after };
  next = λ s g ns. refl;
  law = λ s g es answer l. record { tells = l.tells; stays = l.stays };
  stores = λ s joins es stays. stays;
}

pub write_three_resets : (id : List ℕ) (m : Msg) → IsReset (Write3 id m)
write_three_resets id m = record {
  front = λ s t g es told f. record { accepted = f.accepted; asks = f.asks; takes = f.takes; turns = f.turns; fates = f.fates; each = f.each; after = f.after };
  next = λ s g ns. refl;
  law = λ s g es answer l. record { tells = l.tells; stores = record { law = l.stores.law; others = l.stores.others; ends = l.stores.ends } };
  stores = λ s joins es l. record { law = l.law; others = l.others; ends = l.ends };
}

-- so is the opening of a link
pub same_numbers : (o : Option OpenLink) (p : Peers) (os : List (Option FarEnd)) → (ended o os p).numbers ≡ p.numbers
same_numbers None p os = refl
same_numbers (Some l) p os = refl

as_many_links : (n : ℕ) (ls : List LinkRange) → length (last_ended n ls) ≡ length ls
as_many_links n [] = refl
as_many_links n (x ∷ []) = refl
as_many_links n (x ∷ y ∷ ls) = ap suc (as_many_links n (y ∷ ls))

pub count_ended : (o : Option OpenLink) (p : Peers) (os : List (Option FarEnd)) → length (ended o os p).links ≡ length p.links
count_ended None p os = refl
count_ended (Some l) p os = as_many_links (accepted_at l.peer p os) p.links

same_opened : (s : State) (joins : Joins) (id : List ℕ) (miu rw : ℕ) (es : List Event) (told : Option Answer)
    → link_after (unlinked s) joins (Link id miu rw) es told ≡ link_after s joins (Link id miu rw) es told
same_opened s joins id miu rw es None = refl
same_opened s joins id miu rw es (Some (answers.Linked n)) =
    ap (λ ps. link_if (placed_under id s.world.field.listeners ps) (device_with id s.world.field.listeners) miu rw) (same_numbers s.link s.peers s.world.fars)
same_opened s joins id miu rw es (Some a) = refl

same_after : (s : State) (joins : Joins) (id : List ℕ) (miu rw : ℕ) (es : List Event) (told : Option Answer)
    → state_after (unlinked s) joins (Link id miu rw) es told ≡ state_after s joins (Link id miu rw) es told
same_after s joins id miu rw es told =
    let S : Option OpenLink → State = λ l. record {
      world = world_after s joins (Link id miu rw) es;
      queue = queue_after s.queue es;
      peers = begun_if l s.world.fars (unlinked s).peers;
      link = l;
    } in
    ap S (same_opened s joins id miu rw es told)

same_begun : (s : State) (joins : Joins) (id : List ℕ) (miu rw : ℕ) (es : List Event) (a : Answer)
    → IfLinked (link_after (unlinked s) joins (Link id miu rw) es (Some a)) (λ l. BeginsAt l (own_general miu) (unlinked s).peers.numbers s.world.fars (world_after s joins (Link id miu rw) es).fars)
    (Unit {0})
    → IfLinked (link_after s joins (Link id miu rw) es (Some a)) (λ l. BeginsAt l (own_general miu) s.peers.numbers s.world.fars (world_after s joins (Link id miu rw) es).fars) (Unit {0})
same_begun s joins id miu rw es a h =
    let P : List (Option ℕ) → Option OpenLink → Type 0 = λ ps o. IfLinked o (λ l. BeginsAt l (own_general miu) ps s.world.fars (world_after s joins (Link id miu rw) es).fars) (Unit {0}) in
    subst (λ ps. P ps (link_after s joins (Link id miu rw) es (Some a))) (same_numbers s.link s.peers s.world.fars) (subst (P (unlinked s).peers.numbers) (same_opened s joins id miu rw es (Some a)) h)

pub link_resets : (id : List ℕ) (miu rw : ℕ) → IsReset (Link id miu rw)
link_resets id miu rw = record {
  front = λ s t g es told f. record {
    accepted = f.accepted;
    asks = f.asks;
    takes = f.takes;
    turns = f.turns;
    fates = f.fates;
    each = f.each;
    after = f.after ∙ same_after s g.joins id miu rw es told;
  };
  next = λ s g ns. refl;
  law = λ s g es answer l. record {
    tells = subst (λ n. LinkTells (A id) s.world.field.listeners (n + 1) (own_general miu) es answer) (count_ended s.link s.peers s.world.fars) l.tells;
    begins = same_begun s g.joins id miu rw es answer l.begins;
    stays = l.stays;
    opens = λ n linked. subst (λ o. IsSome o) (same_opened s g.joins id miu rw es (Some answer)) (l.opens n linked);
  };
  stores = λ s joins es stays. stays;
}

-- the machines with this field
abbrev pub upon : Machines → Air Device → Machines
upon m a = record { air = a; ends = m.ends; peers = m.peers; link = m.link }

module _ (c : Command) (r : IsReset c) (old : Machines) (settled : IsSettled old) (now : Machines) where
  -- it was obeyed once no link was open
  pub behind_ended_by : (joins : Joins) (answer : Answer) → ObeyedBy joins (link_ended old) now c answer → ObeyedBy joins old now c answer
  behind_ended_by joins answer o =
      let s : State = state_at old in
      let t : State = state_at now in
      let es : List Event = now.air.trace in
      let same : state_at (link_ended old) ≡ unlinked s = unlinked_state old settled.places in
      let F : State → Type 0 = λ x. FrontOf x o.given c es (Some answer) t in
      let L : State → Type 0 = λ x. AnswerLaw x o.given c es answer in
      record {
        given = o.given;
        joined = o.joined;
        front = r.front s t o.given es (Some answer) (subst F same o.front);
        over = r.next s o.given (receptions es) ∙ ap (λ x. due x o.given c (receptions es)) (sym same) ∙ o.over;
        answered = r.law s o.given es answer (subst L same o.answered);
        tame = o.tame;
        tidy = o.tidy;
        places = o.places;
        link = o.link;
      }

  pub behind_ended : (answer : Answer) → Obeyed (link_ended old) now c answer → Obeyed old now c answer
  behind_ended answer o = behind_ended_by no_joins answer o

  -- or cut off
  pub front_ended_by : (joins : Joins) → CutFront joins (state_at (link_ended old)) c now.air.trace (state_at now) → CutFront joins (state_at old) c now.air.trace (state_at now)
  front_ended_by joins cut =
      let s : State = state_at old in
      let t : State = state_at now in
      let same : state_at (link_ended old) ≡ unlinked s = unlinked_state old settled.places in
      let F : State → Type 0 = λ x. FrontOf x cut.0 c now.air.trace None t in
      let C : State → Type 0 = λ x. CutStores x (cut.0).joins c now.air.trace in
      (cut.0, cut.1, r.front s t cut.0 now.air.trace None (subst F same cut.2), r.stores s (cut.0).joins now.air.trace (subst C same cut.3))

  pub front_ended : CutFront no_joins (state_at (link_ended old)) c now.air.trace (state_at now) → CutFront no_joins (state_at old) c now.air.trace (state_at now)
  front_ended cut = front_ended_by no_joins cut

-- so is one that was cut off
short_unlinked : (c : Command) → IsReset c → (s t : State) (es : List Event) → CutShort no_joins (unlinked s) c es t → CutShort no_joins s c es t
short_unlinked (Read id) r s t es cut = (cut.0, cut.1, r.front s t cut.0 es None cut.2, r.stores s (cut.0).joins es cut.3, cut.4)
short_unlinked (Write id m) r s t es cut = (cut.0, cut.1, r.front s t cut.0 es None cut.2, r.stores s (cut.0).joins es cut.3, cut.4)
short_unlinked (Read3 id) r s t es cut = (cut.0, cut.1, r.front s t cut.0 es None cut.2, r.stores s (cut.0).joins es cut.3, cut.4)
short_unlinked (Write3 id m) r s t es cut = (cut.0, cut.1, r.front s t cut.0 es None cut.2, r.stores s (cut.0).joins es cut.3, cut.4)
short_unlinked c r s t es cut = (cut.0, cut.1, r.front s t cut.0 es None cut.2, r.stores s (cut.0).joins es cut.3)

module _ (c : Command) (r : IsReset c) (old : Machines) (settled : IsSettled old) (b : Air Device) where
  short_ended : CutShort no_joins (state_at (link_ended old)) c b.trace (state_at (upon (link_ended old) b)) → CutShort no_joins (state_at old) c b.trace (state_at (upon (link_ended old) b))
  short_ended cut =
      let t : State = state_at (upon (link_ended old) b) in
      short_unlinked c r (state_at old) t b.trace (subst (λ x. CutShort no_joins x c b.trace t) (unlinked_state old settled.places) cut)

  pub reset_obeyed : (m : Machines) (answer : Answer) → m ≡ link_ended old → ObeyedUnlinked m.air b c answer → Obeyed old (upon m b) c answer
  reset_obeyed m answer is o =
      let P : Machines → Type 0 = λ x. ObeyedUnlinked x.air b c answer → Obeyed old (upon x b) c answer in
      subst P (sym is) (λ p. behind_ended c r old settled (upon (link_ended old) b) answer (p old.ends (link_ended old).peers (places_ended old settled.places))) o

  pub reset_cut : (m : Machines) → m ≡ link_ended old → CutOffUnlinked m.air b c → IsCutOff old (upon m b) c
  reset_cut m is o =
      let P : Machines → Type 0 = λ x. CutOffUnlinked x.air b c → IsCutOff old (upon x b) c in
      subst P (sym is) (λ p. inr (inl (short_ended (p old.ends (link_ended old).peers)))) o

-- The link to a device ends before that is taken away.
abbrev pub ended_to : Machines → ℕ → Machines
ended_to m place = if is_with m.link (get_or m.peers.numbers place None) then link_ended m else m

module _ (old new : Machines) (id : DeviceId) (place : ℕ) (settled : IsSettled old) (placed : IsPlaced (state_at old) id) (s : StandsAt (bytes_of id) old.air.listeners place) where
  linked_there : is_linked_to (state_at old) id ≡ is_with old.link (get_or old.peers.numbers place None)
  linked_there =
      let all : List Device = s.before ++ s.device ∷ s.behind in
      let sound : AreSound (map kept all) = subst (λ xs. AreSound (map kept xs)) s.split settled.idle.tame.sound in
      let many : length old.peers.numbers ≡ length all = settled.places.numbers ∙ ap length s.split in
      ap (λ ls. is_with old.link (placed_under (bytes_of id) ls old.peers.numbers)) s.split
      ∙ ap (is_with old.link) (under_at s.before s.device s.behind (bytes_of id) old.peers.numbers s.named sound many)
      ∙ ap (λ n. is_with old.link (get_or old.peers.numbers n None)) s.at

  -- what taking it away changes, by whether the link is one to it
  abbrev without_by : Bool → State
  without_by v = without_device (record {
    world = (state_at old).world;
    queue = (state_at old).queue;
    peers = if v then (unlinked (state_at old)).peers else old.peers;
    link = if v then None else old.link;
  }) id

  by_link_there : (v : Bool) → is_with old.link (get_or old.peers.numbers place None) ≡ v → new ≡ taken_out (if v then link_ended old else old) place → Obeyed old new (Remove id) Done
  by_link_there true linked is =
      removed old (link_ended old) new id place settled.idle (settled_ended old settled) refl placed
      (ap (λ x. without_device x id) (unlinked_state old settled.places) ∙ ap without_by (sym (linked_there ∙ linked))) s tt is
  by_link_there false apart is =
      let few : place < length old.air.listeners = omega (arith, s.at, ap length s.split, length-append s.before (s.device ∷ s.behind)) in
      let numbers : place < length old.peers.numbers = omega (arith, few, settled.places.numbers) in
      let ends : place < length old.ends = omega (arith, few, settled.places.ends) in
      let other : (l : OpenLink) → old.link ≡ Some l → is_number l.peer (get_or old.peers.numbers place None) ≡ false =
      λ l at. sym (ap (λ o. is_with o (get_or old.peers.numbers place None)) at) ∙ apart in
      let keeps : KeepsLink (taken_out old place) =
      keeps_so old (taken_out old place) refl
      (λ l at o. open_less old.air (taken_out old place).air old.ends old.peers (taken_out old place).peers l place (other l at) numbers ends refl refl refl o) settled.link in
      removed old old new id place settled.idle settled refl placed (ap without_by (sym (linked_there ∙ apart))) s keeps is

  pub taken_away : new ≡ taken_out (ended_to old place) place → Obeyed old new (Remove id) Done
  taken_away is = by_link_there (is_with old.link (get_or old.peers.numbers place None)) refl is

-- The first place that has a number.
next_place : (n : ℕ) (ps : List (Option ℕ)) (os : List (Option FarEnd)) (i : ℕ) → i < length ps
    → end_numbered n (drop i ps) (drop i os) ≡ (if is_number n (get_or ps i None) then get_or os i None else end_numbered n (drop (suc i) ps) (drop (suc i) os))
next_place n [] os i within = absurd (omega (arith, within))
next_place n (p ∷ ps) [] zero within = refl
next_place n (p ∷ ps) (o ∷ os) zero within = refl
next_place n (p ∷ ps) [] (suc i) within =
    ap (end_numbered n (drop i ps)) (sym (none_left i)) ∙ next_place n ps [] i (omega (arith, within))
  where
    none_left : (k : ℕ) → drop {A = Option FarEnd} k [] ≡ []
    none_left zero = refl
    none_left (suc k) = refl
next_place n (p ∷ ps) (o ∷ os) (suc i) within = next_place n ps os i (omega (arith, within))

module _ (n : ℕ) (ps : List (Option ℕ)) (i : ℕ) (within : i < length ps) (p : Option ℕ) where
  by_place : (v : Bool) → is_number n (get_or ps i p) ≡ v → (os : List (Option FarEnd)) → end_numbered n (drop i ps) (drop i os)
      ≡ (if v then get_or os i None else end_numbered n (drop (suc i) ps) (drop (suc i) os))
  by_place v named os =
      next_place n ps os i within ∙ ap (λ w. if w then get_or os i None else end_numbered n (drop (suc i) ps) (drop (suc i) os)) (ap (is_number n) (any_other ps i None p within) ∙ named)

  pub not_here : is_number n (get_or ps i p) ≡ false → (os : List (Option FarEnd)) → end_numbered n (drop i ps) (drop i os) ≡ end_numbered n (drop (i + 1) ps) (drop (i + 1) os)
  not_here other os =
      let next : suc i ≡ i + 1 = omega arith in
      by_place false other os ∙ ap (λ k. end_numbered n (drop k ps) (drop k os)) next

-- the last of some links ends
pub last_set : (n : ℕ) (ls : List LinkRange) (i : ℕ) (d : LinkRange) → i + 1 ≡ length ls
    → slice_set ls i (record { peer = (get_or ls i d).peer; start = (get_or ls i d).start; end = Some n }) ≡ last_ended n ls
last_set n [] i d last = absurd (omega (arith, last))
last_set n (x ∷ []) zero d last = refl
last_set n (x ∷ []) (suc i) d last = absurd (omega (arith, last))
last_set n (x ∷ y ∷ ls) zero d last = absurd (omega (arith, last))
last_set n (x ∷ y ∷ ls) (suc i) d last = ap (λ zs. x ∷ zs) (last_set n (y ∷ ls) i d (omega (arith, last)))
