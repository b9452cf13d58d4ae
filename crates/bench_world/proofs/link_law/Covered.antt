-- Where no frames of a script's own are sent, each message of a peer's list came on a link.
use Rattle.std.proofs.Common.{◌≡◌, ℕ, ◌<◌, List, [], ◌∷◌, ◌++◌, map, length, Bool, true, false, if◌then◌else◌, Option, Some, None, refl, sym, ◌∙◌, ap, subst, arith}
use Rattle.std.specs.Prelude.{get_or, not}
use Rattle.std.specs.List.{AllByRecursion}
use Rattle.std.proofs.lemmas.List.{map-append}
use Rattle.nfc_base.specs.declared.event.Event.{Event}
use Rattle.nfc_base.specs.declared.event.Fate.{Fate}
use Rattle.air_core.specs.Conversation.{queue_after}
use Rattle.snep_core.specs.Talk.{client_sap, sap_of_slot}
use Rattle.bench_script.specs.declared.command.Command.{Command}
use Rattle.bench_script.specs.declared.command.Command.TheVariants as commands
use Rattle.bench_script.specs.declared.command.Command.TheVariants.{Skip, Fates, PlaceT2, PlaceT3, PlaceT4, PlaceT5, PlacePeer, Lock, Busy, Offer, Remove, Dump, Inbox, Find, Crowd, Poll3, Read, Read3}
use Rattle.bench_script.specs.declared.command.Command.TheVariants.{Write, Write3, Link, Forge, Raw, Put, Get, Lookup, OnPut, OnGet, Unlink}
use Rattle.bench_script.specs.declared.command.DeviceId.{DeviceId}
use Rattle.bench_script.specs.DeviceIds.{bytes_of}
use Rattle.bench_script.specs.Messages.{message_of}
use Rattle.bench_devices.specs.declared.device.Device.{Device}
use Rattle.link_calls.specs.Asking.{LinkAsking, Does, Closes, Finding, Getting, put_from, Putting}
use Rattle.bench_world.specs.declared.entry.Answer.{Answer}
use Rattle.bench_world.specs.declared.entry.Entry.{Entry}
use Rattle.bench_world.specs.World.{FarEnd, Stable, WholeWorld, stable}
use Rattle.bench_world.specs.Asked.{asked_on_link, slot_messages}
use Rattle.bench_world.specs.Forging.{opens_link}
use Rattle.bench_world.specs.Inbox.{came_on_link, chosen}
use Rattle.bench_world.specs.Legal.{State, Given, Joins, AnswerBy, AnswerLaw, EachLegal, ForgeLeaves, FrontOf, LegalStep, world_at_start, link_alone, peers_forged, state_after, world_after}
use Rattle.bench_world.specs.LinkLaw.{gained_aside, is_raw, peer_under}
use Rattle.bench_world.specs.Links.{OpenLink, accepted_at, begun_if, end_numbered, ended, ended_unless, is_with, with_last_ended, with_link_if}
use Rattle.bench_world.specs.Opened.{AreNumbered}
use Rattle.bench_world.specs.Peers.{Peers, next_number, placed_under, without_number, without_place}
use Rattle.bench_world.specs.Stories.{Story, Stretch, accepted_of, state_from, stretch_of}
use Rattle.bench_world.proofs.devices.AtNumbers.{AreHeld, Held, IfHeld, at_own_place, held, held_at, held_offered, more_held, same_held, with_held}
use Rattle.bench_world.proofs.devices.HeldOn.{nothing_sent}
use Rattle.bench_world.proofs.link_law.InRanges.{chosen_none}
use Rattle.bench_world.proofs.link_law.LinkLaw.{forged_covered, left_behind, none_then, placed_view, step, talk_opened, talked_then, view_by}
use Rattle.bench_world.proofs.link_law.StoriesHere.{Stand, StandBy, count_there, ended_closed, view_at, view_of}
use Rattle.bench_world.proofs.link_law.StoriesStand.{Closed, Covered, Opened, covered_linked, covered_more, covered_over, view_ended}
use Rattle.bench_world.proofs.link_law.StoriesStep.{base_held, covered_less, covered_peer, gone_view, same_tag}
use Rattle.bench_world.proofs.link_law.Tales.{stories_behind}

abbrev Covers : State → Type 0
Covers s = Covered (view_of s)

-- The open link ends.
over_covered : (p : Peers) (fars : List (Option FarEnd)) (n : ℕ) (ys : List Story) → Opened (view_at p fars) n ys → Covered (view_at p fars)
    → Covered (view_at (with_last_ended (accepted_at n p fars) p) fars)
over_covered p fars n ys o all = subst (λ m. Covered (view_ended (view_at p fars) m)) (count_there p fars n ys o) (covered_over (view_at p fars) n ys o all)

ended_covered : (o : Option OpenLink) (p : Peers) (fars : List (Option FarEnd)) (ys : List Story) → StandBy (view_at p fars) o ys → Covered (view_at p fars) → Covered (view_at (ended o fars p) fars)
ended_covered None p fars ys stand all = all
ended_covered (Some l) p fars ys stand all = over_covered p fars l.peer ys stand.opened all

unless_covered : (left : Option OpenLink) (l : OpenLink) (p : Peers) (fars : List (Option FarEnd)) (ys : List Story) → Opened (view_at p fars) l.peer ys → Covered (view_at p fars)
    → Covered (view_at (ended_unless left (Some l) fars p) fars)
unless_covered None l p fars ys o all = over_covered p fars l.peer ys o all
unless_covered (Some m) l p fars ys o all = all

-- One begins, where one does.
begun_covered : (left : Option OpenLink) (before fars : List (Option FarEnd)) (p : Peers) → Covered (view_at p fars) → Covered (view_at (begun_if left before p) fars)
begun_covered None before fars p all = all
begun_covered (Some l) before fars p all = covered_linked (view_at p fars) (record { peer = l.peer; start = accepted_at l.peer p before; end = None }) all

-- A legal step by a command that sends no frames of a script's own.
module _ (w : WholeWorld) (q : List Fate) (p : Peers) (ys : List Story) (g : Given) (a : Answer) where
  abbrev from : Option OpenLink → State
  from o = record { world = w; queue = q; peers = p; link = o }

  module _ (o : Option OpenLink) (stand : Stand (from o) ys) (all : Covers (from o)) (c : Command) (es : List Event) where
    abbrev behind : List Event → State
    behind xs = state_after (from o) g.joins c xs (Some a)

    -- where nothing was sent
    unsent : (t : State) → FrontOf (from o) g c es (Some a) t → es ≡ [] → Covers (behind []) → Covers t
    unsent t front none covers = subst Covers (sym (front.after ∙ ap behind none)) covers

    ended_so : Covered (view_at (ended o w.fars p) w.fars)
    ended_so = ended_covered o p w.fars ys stand.stand all

    -- where a command that begins with a reset changed no list
    reset_so : (now : WholeWorld) → (stable now).ends ≡ (stable w).ends → Covered (view_at (ended o w.fars p) now.fars)
    reset_so now same = subst (λ ks. Covered (view_by (ended o w.fars p) ks)) (sym (same_held now w same)) ended_so

  -- a tag is placed
  tag_so : (o : Option OpenLink) (stand : Stand (from o) ys) → Covers (from o)
      → Covered (view_by (record { numbers = p.numbers ++ None ∷ []; gone = p.gone; links = p.links }) (map held (w.fars ++ None ∷ [])))
  tag_so o stand all =
      subst (λ ks. Covered (record { numbers = p.numbers ++ None ∷ []; placed = next_number p; links = p.links; held = ks })) (sym (map-append held w.fars (None ∷ [])))
      (λ n. subst (IfHeld (λ k. (i : ℕ) → i < length k.accepted → came_on_link p.links n i ≡ true)) (sym (same_tag (from o) ys stand n)) (all n))

  abbrev resets : Option OpenLink → Command → List Event → WholeWorld
  resets o c es = world_after (from o) g.joins c es

  -- payloads that were written by hand were sent over a link of their own, or none was
  forge_so : (o : Option OpenLink) (stand : Stand (from o) ys) → Covers (from o) → (id : List ℕ) (payloads : List (List ℕ)) (es : List Event) (v : Bool) → opens_link id payloads es ≡ v
      → ForgeLeaves v (from o) g.joins id payloads es → Covers (state_after (from o) g.joins (Forge id payloads) es (Some a))
  forge_so o stand all id payloads es true opened sends =
      let now : WholeWorld = resets o (Forge id payloads) es in
      forged_covered w q p ys o stand g.joins (Some a) id payloads es (state_after (from o) g.joins (Forge id payloads) es (Some a)) sends.peer sends.placed sends.more sends.ends
      (ap (λ v. peers_forged v (from o) (DeviceId.A id) now.fars) opened ∙ ap (λ n. with_link_if n w.fars now.fars (ended o w.fars p)) sends.placed)
      (ended_so o stand all (Forge id payloads) es)
  forge_so o stand all id payloads es false unopened stays =
      let now : WholeWorld = resets o (Forge id payloads) es in
      subst (λ (x : Peers). Covered (view_at x now.fars)) (sym (ap (λ v. peers_forged v (from o) (DeviceId.A id) now.fars) unopened))
      (reset_so o stand all (Forge id payloads) es now (ap (λ (z : Stable). z.ends) stays))

  -- a command on the link, whatever it asks
  talk_so : (o : Option OpenLink) (stand : Stand (from o) ys) → Covers (from o) → (asked : LinkAsking) (c : Command) → asked_on_link c ≡ Some asked → (es : List Event) (t : State)
      → FrontOf (from o) g c es (Some a) t → AnswerBy (Some asked) (from o) g c es a → Covers t
  talk_so None stand all asked c asks es t front law = subst Covers (sym (none_then w q p ys stand g (Some a) c asked asks es t front)) all
  talk_so (Some l) stand all asked c asks es t front law =
      let now : WholeWorld = resets (Some l) c es in
      let accepted : map held now.fars ≡ with_held law.more l.peer p.numbers (map held w.fars) = more_held now w law.more l.peer p.numbers law.ends in
      let left : Option OpenLink = left_behind w q p ys l stand g (Some a) c asked asks front.accepted es law.more law.adds in
      let z = talk_opened w q p ys l stand g (Some a) c asked asks front.accepted es law.more law.adds now (queue_after q es) left accepted in
      let more : Covered (view_by p (map held now.fars)) =
      subst (λ ks. Covered (view_by p ks)) (sym accepted) (covered_more (view_of (from (Some l))) l.peer ys stand.stand.opened law.more all) in
      subst Covers (sym (talked_then w q p ys l stand g (Some a) c asked asks front.accepted es law.more law.adds t front)) (unless_covered left l p now.fars _ z.0 more)

  -- one behind which every list is as it was
  calm_so : (o : Option OpenLink) (stand : Stand (from o) ys) → Covers (from o) → (c : Command) (es : List Event) → (stable (resets o c es)).ends ≡ (stable w).ends
      → Covered (view_at (ended o w.fars p) (resets o c es).fars)
  calm_so o stand all c es same = reset_so o stand all c es (resets o c es) same

  covers_by : (o : Option OpenLink) (c : Command) (es : List Event) (t : State) (stand : Stand (from o) ys) → Covers (from o) → is_raw c ≡ false → FrontOf (from o) g c es (Some a) t
      → AnswerLaw (from o) g c es a → Covers t
  covers_by o Skip es t stand all calm front law = absurd law
  covers_by o (Fates fates) es t stand all calm front law =
      unsent o stand all (Fates fates) es t front (nothing_sent (world_at_start (from o) g.joins (Fates fates)) es front.turns front.each) all
  covers_by o (PlaceT2 id blocks head) es t stand all calm front law =
      let c : Command = PlaceT2 id blocks head in
      unsent o stand all c es t front (nothing_sent (world_at_start (from o) g.joins c) es front.turns front.each) (tag_so o stand all)
  covers_by o (PlaceT3 id blocks head) es t stand all calm front law =
      let c : Command = PlaceT3 id blocks head in
      unsent o stand all c es t front (nothing_sent (world_at_start (from o) g.joins c) es front.turns front.each) (tag_so o stand all)
  covers_by o (PlaceT4 id code container head) es t stand all calm front law =
      let c : Command = PlaceT4 id code container head in
      unsent o stand all c es t front (nothing_sent (world_at_start (from o) g.joins c) es front.turns front.each) (tag_so o stand all)
  covers_by o (PlaceT5 id blocks size head) es t stand all calm front law =
      let c : Command = PlaceT5 id blocks size head in
      unsent o stand all c es t front (nothing_sent (world_at_start (from o) g.joins c) es front.turns front.each) (tag_so o stand all)
  covers_by o (PlacePeer id lr miu window limit) es t stand all calm front law =
      let c : Command = PlacePeer id lr miu window limit in
      unsent o stand all c es t front (nothing_sent (world_at_start (from o) g.joins c) es front.turns front.each)
      (subst Covered (sym (placed_view w q p ys o stand g (Some a) id lr miu window limit))
      (λ n. covered_peer (from o) ys stand (record { limit = limit; accepted = [] }) refl n (all n)))
  covers_by o (Lock id block) es t stand all calm front law =
      unsent o stand all (Lock id block) es t front (nothing_sent (world_at_start (from o) g.joins (Lock id block)) es front.turns front.each) all
  covers_by o (Busy id count times) es t stand all calm front law =
      unsent o stand all (Busy id count times) es t front (nothing_sent (world_at_start (from o) g.joins (Busy id count times)) es front.turns front.each) all
  covers_by o (Offer id key value) es t stand all calm front law =
      unsent o stand all (Offer id key value) es t front (nothing_sent (world_at_start (from o) g.joins (Offer id key value)) es front.turns front.each)
      (subst (λ ks. Covered (view_by p ks)) (sym (held_offered key value (bytes_of id) w.field.listeners w.fars stand.places.fars)) all)
  covers_by o (Remove id) es t stand all calm front law =
      unsent o stand all (Remove id) es t front (nothing_sent (world_at_start (from o) g.joins (Remove id)) es front.turns front.each)
      (less_by (is_with o (placed_under (bytes_of id) w.field.listeners p.numbers)))
    where
      ds : List Device
      ds = w.field.listeners

      stretch : Stretch
      stretch = record { command = Remove id; joins = g.joins; events = es; told = Some a }

      less_so : (ps : Peers) → AreHeld ps.numbers (map held w.fars) × AreNumbered (next_number ps) ps.numbers → Covered (view_at ps w.fars)
          → Covered (view_at (without_number (bytes_of id) ds w.fars ps) (without_place (bytes_of id) ds w.fars))
      less_so ps both covers =
          subst Covered (gone_view w q p stretch ys (bytes_of id) q ps) (λ n. covered_less (view_at ps w.fars) ys (bytes_of id) ds both.0 both.1 n (covers n))

      less_by : (v : Bool) → Covered (view_at (without_number (bytes_of id) ds w.fars (if v then ended o w.fars p else p)) (without_place (bytes_of id) ds w.fars))
      less_by true =
          let closed : Closed (view_at (ended o w.fars p) w.fars) ys = ended_closed o p w.fars ys stand.stand in
          less_so (ended o w.fars p) (closed.base.held, closed.base.apart) (ended_so o stand all (Remove id) es)
      less_by false = less_so p (base_held (view_of (from o)) o ys stand.stand) all
  covers_by o (Dump id) es t stand all calm front law =
      unsent o stand all (Dump id) es t front (nothing_sent (world_at_start (from o) g.joins (Dump id)) es front.turns front.each) all
  covers_by o (Inbox id) es t stand all calm front law =
      unsent o stand all (Inbox id) es t front (nothing_sent (world_at_start (from o) g.joins (Inbox id)) es front.turns front.each) all
  covers_by o Find es t stand all calm front law = subst Covers (sym front.after) (calm_so o stand all Find es (ap (λ (z : Stable). z.ends) law.stays))
  covers_by o Crowd es t stand all calm front law = subst Covers (sym front.after) (calm_so o stand all Crowd es (ap (λ (z : Stable). z.ends) law.stays))
  covers_by o Poll3 es t stand all calm front law = subst Covers (sym front.after) (calm_so o stand all Poll3 es (ap (λ (z : Stable). z.ends) law.stays))
  covers_by o (Read id) es t stand all calm front law = subst Covers (sym front.after) (calm_so o stand all (Read id) es (ap (λ (z : Stable). z.ends) law.stays))
  covers_by o (Read3 id) es t stand all calm front law = subst Covers (sym front.after) (calm_so o stand all (Read3 id) es (ap (λ (z : Stable). z.ends) law.stays))
  covers_by o (Write id m) es t stand all calm front law = subst Covers (sym front.after) (calm_so o stand all (Write id m) es law.stores.ends)
  covers_by o (Write3 id m) es t stand all calm front law = subst Covers (sym front.after) (calm_so o stand all (Write3 id m) es law.stores.ends)
  covers_by o (Link id miu window) es t stand all calm front law =
      let c : Command = Link id miu window in
      subst Covers (sym front.after)
      (begun_covered (link_alone (from o) c (Some a)) w.fars (resets o c es).fars (ended o w.fars p) (calm_so o stand all c es (ap (λ (z : Stable). z.ends) law.stays)))
  covers_by o (Forge id payloads) es t stand all calm front law = subst Covers (sym front.after) (forge_so o stand all id payloads es (opens_link id payloads es) refl law.leaves)
  covers_by o (Raw id frames) es t stand all calm front law = absurd cc
  covers_by o (Put m) es t stand all calm front law = talk_so o stand all (Does (put_from 0 (message_of m))) (Put m) refl es t front law
  covers_by o (Get most key) es t stand all calm front law = talk_so o stand all (Does (Getting client_sap most key)) (Get most key) refl es t front law
  covers_by o (Lookup name) es t stand all calm front law = talk_so o stand all (Does (Finding name)) (Lookup name) refl es t front law
  covers_by o (OnPut slot m) es t stand all calm front law = talk_so o stand all (Does (put_from slot (message_of m))) (OnPut slot m) refl es t front law
  covers_by o (OnGet slot most key) es t stand all calm front law = talk_so o stand all (Does (Getting (sap_of_slot slot) most key)) (OnGet slot most key) refl es t front law
  covers_by o (commands.Puts puts) es t stand all calm front law = talk_so o stand all (Does (Putting (slot_messages puts))) (commands.Puts puts) refl es t front law
  covers_by o Unlink es t stand all calm front law = talk_so o stand all Closes Unlink refl es t front law

covers_step : (s t : State) (g : Given) (e : Entry) (ys : List Story) → Stand s ys → Covers s → is_raw e.command ≡ false → LegalStep s g e t → Covers t
covers_step s t g e ys stand all calm legal = covers_by s.world s.queue s.peers ys g e.answer s.link e.command e.events t stand all calm legal.front legal.answered

-- What a peer's server accepted, by what stands of it.
pub accepted_as : (o stayed : Option FarEnd) (k : Held) → held o ≡ Some k → accepted_of o stayed ≡ k.accepted
accepted_as None stayed k is = absurd cc
accepted_as (Some end) stayed k is = let same : record { limit = end.service.limit; accepted = end.service.accepted } ≡ k = cc in ap (λ (h : Held). h.accepted) same

-- So nothing was gained on no link.
aside_here : (s : State) (ys : List Story) (id : DeviceId) (peer : ℕ) → Stand s ys → Covers s → peer_under id s ≡ Some peer → gained_aside s peer ≡ []
aside_here s ys id peer stand all is =
    let both = base_held (view_of s) s.link ys stand.stand in
    let there = at_own_place peer (next_number s.peers) (bytes_of id) s.world.field.listeners s.peers.numbers (map held s.world.fars) both.0 both.1 is in
    let k : Held = there.0 in
    let each : (n : ℕ) → n < length k.accepted → came_on_link s.peers.links peer n ≡ true =
    subst (IfHeld (λ h. (n : ℕ) → n < length h.accepted → came_on_link s.peers.links peer n ≡ true)) there.1 (all peer) in
    ap (chosen (λ n. not (came_on_link s.peers.links peer n)) 0)
    (accepted_as (end_numbered peer s.peers.numbers s.world.fars) (get_or s.peers.gone peer None) k (held_at peer s.peers.numbers s.world.fars ∙ there.1))
    ∙ chosen_none (λ n. not (came_on_link s.peers.links peer n)) 0 k.accepted (λ n from to. ap not (each n (omega (arith, to))))

pub nothing_aside : (s t : State) (gs : List Given) (before behind : List Entry) (ys : List Story) (id : DeviceId) (peer : ℕ) → Stand s ys → Covers s → EachLegal s gs (before ++ behind) t
    → AllByRecursion (λ (e : Entry). is_raw e.command ≡ false) before → peer_under id (state_from s (map (λ (g : Given). g.joins) gs) before) ≡ Some peer
    → gained_aside (state_from s (map (λ (g : Given). g.joins) gs) before) peer ≡ []
nothing_aside s t [] [] behind ys id peer stand all legal calm placed = aside_here s ys id peer stand all placed
nothing_aside s t [] (b ∷ before) behind ys id peer stand all legal calm placed = absurd legal
nothing_aside s t (g ∷ gs) [] behind ys id peer stand all legal calm placed = aside_here s ys id peer stand all placed
nothing_aside s t (g ∷ gs) (b ∷ before) behind ys id peer stand all legal calm placed =
    let mid : State = legal.0 in
    let ns : List Joins = map (λ (h : Given). h.joins) gs in
    subst (λ x. peer_under id (state_from x ns before) ≡ Some peer → gained_aside (state_from x ns before) peer ≡ []) legal.1.front.after
    (nothing_aside mid t gs before behind (stories_behind s (stretch_of g.joins b) mid ys) id peer (step s mid g b ys stand legal.1) (covers_step s mid g b ys stand all calm.0 legal.1) legal.2 calm.1)
    placed
