-- The law of links behind a command that want of memory cut off.
use Rattle.std.proofs.Common.{◌≡◌, ◌⊎◌, List, [], ◌∷◌, map, length, Bool, true, false, Option, Some, None, IsSome, inl, inr, refl, sym, ◌∙◌, ap, subst}
use Rattle.std.specs.List.{AllByRecursion}
use Rattle.std.proofs.lemmas.List.{append-nil, length-map}
use Rattle.nfc_base.specs.declared.event.Event.{Event}
use Rattle.nfc_base.specs.declared.event.Fate.{Fate}
use Rattle.bench_script.specs.declared.command.Command.{Command}
use Rattle.bench_script.specs.declared.command.Command.TheVariants.{Find, Crowd, Poll3, Read, Read3, Write, Write3, Link, Forge, Put, Get, Lookup, Unlink, OnPut, OnGet, Puts, Raw}
use Rattle.bench_devices.specs.declared.device.Device.{Device}
use Rattle.bench_devices.specs.Keeping.{Kept, AllStayDevices, IsSound, StaysDevice, kept}
use Rattle.bench_world.specs.World.{WholeWorld, Stable}
use Rattle.bench_world.specs.ByPayloads.{IsFrontOfPayloads, IfPayloads}
use Rattle.link_calls.specs.Asking.{LinkAsking, Does, Closes, Finding, Getting, put_from, Putting}
use Rattle.snep_core.specs.Talk.{client_sap, sap_of_slot}
use Rattle.bench_script.specs.Messages.{message_of}
use Rattle.bench_world.specs.Asked.{IsOnLink, asked_on_link, slot_messages}
use Rattle.bench_world.specs.Calls.{OfEnd, PeerMayAdd}
use Rattle.bench_world.specs.Legal.{State, Given, Joins, Accepts, CutFront, world_at_start, CutLeft, CutShort, EachLegal, CutStores, ForgeCutLeaves, FrontOf, peer_end_of, first_state, state_after}
use Rattle.bench_world.specs.Legal.{world_after}
use Rattle.bench_world.specs.Halting.{ForgeHalts, HaltAdded, HaltLeaves, Halts, PeerHalts, RawHalts}
use Rattle.bench_world.specs.Rawing.{raw_opens}
use Rattle.bench_devices.specs.AnyFrame.{peer_place, peers_in}
use Rattle.bench_devices.proofs.kinds.AnyFrame.{place_stays}
use Rattle.bench_world.proofs.devices.FarStays.{all_stay, far_stay}
use Rattle.bench_world.proofs.forged.ForgeLeft.{forged_numbers}
use Rattle.bench_world.proofs.by_hand.RawGrows.{GrowsAt, all_grow, all_long, grows_long}
use Rattle.bench_world.proofs.link_law.RawStories.{halted_grows, raw_stands}
use Rattle.std.specs.Prelude.{◌≤◌}
use Rattle.bench_world.specs.LinkLaw.{CutArrivalLaw, CutLinkLaw, KeepsLinkLaw, cut_stretch}
use Rattle.bench_world.specs.Forging.{opens_link}
use Rattle.bench_world.specs.Links.{OpenLink, ended}
use Rattle.bench_world.specs.Peers.{Peers}
use Rattle.bench_world.specs.Stories as told
use Rattle.bench_world.specs.Stories.{Story, stories_of}
use Rattle.bench_world.proofs.link_law.CutArrivals.{cut_arrived}
use Rattle.bench_world.proofs.link_law.PayloadsKept.{kept_along}
use Rattle.bench_world.proofs.devices.AtNumbers.{held, more_held, same_held, with_held}
use Rattle.bench_world.proofs.link_law.LinkLaw.{all_keep, along, as_many_sent, as_many_talked, first_stand, forge_sent, forge_unsent, forged_stands, reset, step, talk_none, talk_so, talked, raw_after}
use Rattle.bench_world.proofs.link_law.LinkLaw.{same_many}
use Rattle.bench_world.proofs.devices.PeersNumbered.{HavePlaces, places_stay}
use Rattle.bench_world.proofs.link_law.SameStories.{KeepsNumbers, begun_within, ended_in, same_behind, same_from}
use Rattle.bench_world.proofs.link_law.StoriesHere.{Stand, view_of}
use Rattle.bench_world.proofs.open_link.Talks.{off}
use Rattle.bench_world.proofs.link_law.Tales.{stories_behind}
use Rattle.bench_world.proofs.tags.Unfinished.{halted_stay, short_front}
use Rattle.bench_world.proofs.open_link.Unlinking.{same_numbers}

-- A device of which all stays that does stays as any frame leaves it.
kept_stays : (l m : Device) → kept m ≡ kept l → StaysDevice l m
kept_stays l m e = record { fixed = ap (λ (k : Kept). k.fixed) e; long = ap (λ (k : Kept). length k.store) e; sound = λ s. subst IsSound (sym e) s }

kept_all_stay : (ls ms : List Device) → map kept ms ≡ map kept ls → AllStayDevices ls ms
kept_all_stay [] [] e = tt
kept_all_stay [] (m ∷ ms) e = absurd cc
kept_all_stay (l ∷ ls) [] e = absurd cc
kept_all_stay (l ∷ ls) (m ∷ ms) e =
    let one : kept m ≡ kept l = cc in
    let rest : map kept ms ≡ map kept ls = cc in
    (kept_stays l m one, kept_all_stay ls ms rest)

-- A front of a step.
module _ (w : WholeWorld) (q : List Fate) (p : Peers) (ys : List Story) (g : Given) where
  abbrev from : Option OpenLink → State
  from o = record { world = w; queue = q; peers = p; link = o }

  abbrev so : Option OpenLink → Command → List Event → State → Type 0
  so o c es t = Stand t (stories_behind (from o) (record { command = c; joins = g.joins; events = es; told = None }) t ys)

  after_front : (o : Option OpenLink) (c : Command) (es : List Event) (t : State) → FrontOf (from o) g c es None t → so o c es (state_after (from o) g.joins c es None) → so o c es t
  after_front o c es t front steps = subst (so o c es) (sym front.after) steps

  -- a command on the link, whatever it asks
  talk_by : (o : Option OpenLink) (asked : LinkAsking) (c : Command) → asked_on_link c ≡ Some asked → (es : List Event) (t : State) → Stand (from o) ys → FrontOf (from o) g c es None t
      → CutLeft (Some asked) (from o) g.joins c es → so o c es t
  talk_by None asked c asks es t stand front stores = talk_none w q p ys stand g None c asked asks es t front
  talk_by (Some l) asked c asks es t stand front stores =
      talked w q p ys l stand g None c asked asks front.accepted es stores.more stores.adds t front stores.ends (λ b e. absurd cc)

  front_by : (o : Option OpenLink) (c : Command) (es : List Event) (t : State) → Stand (from o) ys → FrontOf (from o) g c es None t → CutStores (from o) g.joins c es → so o c es t
  front_by o Find es t stand front stores =
      after_front o Find es t front (reset w q p ys o stand g None Find es refl refl refl refl refl (same_held (world_after (from o) g.joins Find es) w (ap (λ (z : Stable). z.ends) stores)))
  front_by o Crowd es t stand front stores =
      after_front o Crowd es t front (reset w q p ys o stand g None Crowd es refl refl refl refl refl (same_held (world_after (from o) g.joins Crowd es) w (ap (λ (z : Stable). z.ends) stores)))
  front_by o Poll3 es t stand front stores =
      after_front o Poll3 es t front (reset w q p ys o stand g None Poll3 es refl refl refl refl refl (same_held (world_after (from o) g.joins Poll3 es) w (ap (λ (z : Stable). z.ends) stores)))
  front_by o (Read id) es t stand front stores =
      after_front o (Read id) es t front (reset w q p ys o stand g None (Read id) es refl refl refl refl refl
      (same_held (world_after (from o) g.joins (Read id) es) w (ap (λ (z : Stable). z.ends) stores)))
  front_by o (Write id m) es t stand front stores =
      after_front o (Write id m) es t front (reset w q p ys o stand g None (Write id m) es refl refl refl refl refl (same_held (world_after (from o) g.joins (Write id m) es) w stores.ends))
  front_by o (Read3 id) es t stand front stores =
      after_front o (Read3 id) es t front (reset w q p ys o stand g None (Read3 id) es refl refl refl refl refl
      (same_held (world_after (from o) g.joins (Read3 id) es) w (ap (λ (z : Stable). z.ends) stores)))
  front_by o (Write3 id m) es t stand front stores =
      after_front o (Write3 id m) es t front (reset w q p ys o stand g None (Write3 id m) es refl refl refl refl refl (same_held (world_after (from o) g.joins (Write3 id m) es) w stores.ends))
  front_by o (Link id miu window) es t stand front stores =
      let c : Command = Link id miu window in
      after_front o c es t front (reset w q p ys o stand g None c es refl refl refl refl refl (same_held (world_after (from o) g.joins c es) w (ap (λ (z : Stable). z.ends) stores)))
  front_by o (Forge id payloads) es t stand front stores = after_front o (Forge id payloads) es t front (by (opens_link id payloads es) refl stores)
    where
      by : (v : Bool) → opens_link id payloads es ≡ v → ForgeCutLeaves v (from o) g.joins id payloads es → so o (Forge id payloads) es (state_after (from o) g.joins (Forge id payloads) es None)
      by true opened sends = forge_sent w q p ys o stand g None id payloads es opened sends.peer sends.placed sends.more sends.ends
      by false unopened stays = forge_unsent w q p ys o stand g None id payloads es unopened stays
  front_by o (Raw id frames) es t stand front stores = after_front o (Raw id frames) es t front (raw_after w q p ys o stand g None id frames es front.accepted.one stores)
  front_by o (Put m) es t stand front stores = talk_by o (Does (put_from 0 (message_of m))) (Put m) refl es t stand front stores
  front_by o (Get most key) es t stand front stores = talk_by o (Does (Getting client_sap most key)) (Get most key) refl es t stand front stores
  front_by o (Lookup name) es t stand front stores = talk_by o (Does (Finding name)) (Lookup name) refl es t stand front stores
  front_by o (OnPut slot m) es t stand front stores = talk_by o (Does (put_from slot (message_of m))) (OnPut slot m) refl es t stand front stores
  front_by o (OnGet slot most key) es t stand front stores = talk_by o (Does (Getting (sap_of_slot slot) most key)) (OnGet slot most key) refl es t stand front stores
  front_by o (Puts puts) es t stand front stores = talk_by o (Does (Putting (slot_messages puts))) (Puts puts) refl es t stand front stores
  front_by o Unlink es t stand front stores = talk_by o Closes Unlink refl es t stand front stores
  front_by o c es t stand front stores = absurd stores

-- The peer's end stopped.
module _ (w : WholeWorld) (q : List Fate) (p : Peers) (ys : List Story) (g : Given) (l : OpenLink) (stand : Stand (record { world = w; queue = q; peers = p; link = Some l }) ys) (es : List Event)
    (t : State) where
  abbrev on : State
  on = record { world = w; queue = q; peers = p; link = Some l }

  abbrev left : Peers → Option OpenLink → State
  left ps k = record { world = t.world; queue = t.queue; peers = ps; link = k }

  abbrev halts_so : Command → State → Type 0
  halts_so c u = Stand u (stories_behind on (record { command = c; joins = g.joins; events = es; told = None }) u ys)

  left_is : (c : Command) → HaltLeaves on c l t → halts_so c (left (ended (Some l) t.world.fars p) None) → halts_so c t
  left_is c h steps =
      let is : left t.peers t.link ≡ left (ended (Some l) t.world.fars p) None = ap (λ ps. left ps t.link) h.peers ∙ ap (left (ended (Some l) t.world.fars p)) h.link in
      subst (halts_so c) (sym is) steps

  halts_by : (c : Command) → IsOnLink c → Accepts on c → HaltLeaves on c l t → halts_so c t
  halts_by c talks may h = by (asked_on_link c) refl talks
    where
      by : (o : Option LinkAsking) → asked_on_link c ≡ o → IsSome o → halts_so c t
      by None e some = off some
      by (Some asked) e some =
          let adds : OfEnd (λ end. PeerMayAdd asked end h.more) (peer_end_of on l) = subst (λ o. OfEnd (λ end. HaltAdded o end h.more) (peer_end_of on l)) e h.adds in
          let accepted : map held t.world.fars ≡ with_held h.more l.peer p.numbers (map held w.fars) = more_held t.world w h.more l.peer p.numbers h.ends in
          let many : length t.world.fars ≡ length w.fars = as_many_talked w q p ys l stand g None c asked e may es h.more adds t.world accepted in
          let places : HavePlaces t.world.field.listeners p.numbers t.world.fars =
          places_stay w.field.listeners t.world.field.listeners p.numbers p.numbers w.fars t.world.fars (kept_all_stay w.field.listeners t.world.field.listeners h.talk.2.same) many refl
          stand.places in
          left_is c h (talk_so w q p ys l stand g None c asked e may es h.more adds t.world t.queue None places accepted (λ k e. absurd cc))

module _ (s t : State) (joins : Joins) (c : Command) (cut : List Event) (ys : List Story) (stand : Stand s ys) where
  abbrev pub CutStand : Type 0
  CutStand = Stand t (stories_behind s (cut_stretch c joins cut) t ys)

  cut_front : CutFront joins s c cut t → CutStand
  cut_front (g, joined, front, stores) =
      subst (λ j. Stand t (stories_behind s (cut_stretch c j cut) t ys)) joined (front_by s.world s.queue s.peers ys g s.link c cut t stand front stores)

  cut_halts : PeerHalts joins s c cut t → CutStand
  cut_halts h =
      let S : Option OpenLink → State = λ o. record { world = s.world; queue = s.queue; peers = s.peers; link = o } in
      let at : Stand (S (Some h.on)) ys = subst (λ o. Stand (S o) ys) h.open_ stand in
      let leaves : HaltLeaves (S (Some h.on)) c h.on t = subst (λ o. HaltLeaves (S o) c h.on t) h.open_ h.leaves in
      let may : Accepts (S (Some h.on)) c = subst (λ o. Accepts (S o) c) h.open_ h.front.accepted in
      let steps = halts_by s.world s.queue s.peers ys h.given h.on at cut t c h.on_link may leaves in
      let back : Stand t (stories_behind s (cut_stretch c h.given.joins cut) t ys) = subst (λ o. Stand t (stories_behind (S o) (cut_stretch c h.given.joins cut) t ys)) (sym h.open_) steps in
      subst (λ j. Stand t (stories_behind s (cut_stretch c j cut) t ys)) h.joined back

  -- or that of a link of payloads that were written by hand
  forge_halts : ForgeHalts joins s c cut t → CutStand
  forge_halts h =
      let stays : AllStayDevices s.world.field.listeners t.world.field.listeners = kept_all_stay s.world.field.listeners t.world.field.listeners h.leaves.talk.2.same in
      let many : length t.world.fars ≡ length s.world.fars =
      as_many_sent s.world s.queue s.peers ys s.link stand joins None h.id h.payloads cut h.peer h.leaves.more t.world h.leaves.ends in
      subst (λ x. Stand t (stories_behind s (cut_stretch x joins cut) t ys)) (sym h.command)
      (forged_stands s.world s.queue s.peers ys s.link stand joins None h.id h.payloads cut t h.peer h.placed h.leaves.more h.leaves.ends h.leaves.peers h.leaves.link
      (places_stay s.world.field.listeners t.world.field.listeners s.peers.numbers s.peers.numbers s.world.fars t.world.fars stays many refl stand.places) h.opened)

  -- or that of a peer to which frames of a script's own were sent
  raw_halts : RawHalts joins s c cut t → CutStand
  raw_halts h =
      let ds : List Device = s.world.field.listeners in
      let ms : List Device = h.mid.world.field.listeners in
      let d : Command = Raw h.id h.frames in
      let first : WholeWorld = world_at_start s h.given.joins d in
      let few : peers_in ds ≤ 1 = h.front.accepted.one in
      let mid_is : h.mid.world ≡ world_after s h.given.joins d h.before = ap (λ (x : State). x.world) h.front.after in
      let first_stay : AllStayDevices ds (world_after s h.given.joins d h.before).field.listeners = (far_stay h.before first).stay in
      let to_mid : AllStayDevices ds ms = subst (λ (x : WholeWorld). AllStayDevices ds x.field.listeners) (sym mid_is) first_stay in
      let stays : AllStayDevices ds t.world.field.listeners =
      all_stay ds ms t.world.field.listeners to_mid (subst (AllStayDevices ms) (sym h.leaves.devices) (halted_stay h.leaves.place h.sent ms)) in
      let there : peer_place ds ≡ Some h.leaves.place = sym (place_stays ds ms to_mid) ∙ h.leaves.stands in
      let to_mid_grows : GrowsAt (peer_place ds) (map held s.world.fars) (map held h.mid.world.fars) =
      subst (λ (x : WholeWorld). GrowsAt (peer_place ds) (map held s.world.fars) (map held x.fars)) (sym mid_is) (all_grow h.before (peer_place ds) first stand.places.fars few refl) in
      let mid_many : length h.mid.world.fars ≡ length s.world.fars =
      ap (λ (x : WholeWorld). length x.fars) mid_is ∙ all_long h.before first stand.places.fars ∙ same_many ds (world_after s h.given.joins d h.before).field.listeners first_stay
      ∙ sym stand.places.fars in
      let grows : GrowsAt (peer_place ds) (map held s.world.fars) (map held t.world.fars) =
      halted_grows s.world s.queue s.peers ys s.link stand joins None h.id h.frames cut few h.mid.world t.world h.leaves.place h.leaves.peer h.leaves.more there h.leaves.numbered mid_many to_mid_grows
      h.leaves.ends in
      let many : length t.world.fars ≡ length s.world.fars =
      sym (length-map t.world.fars held) ∙ grows_long (peer_place ds) (map held s.world.fars) (map held t.world.fars) grows ∙ length-map s.world.fars held in
      subst (λ x. Stand t (stories_behind s (cut_stretch x joins cut) t ys)) (sym h.command)
      (raw_stands s.world s.queue s.peers ys s.link stand joins None h.id h.frames cut few t grows h.leaves.peers h.leaves.link
      (places_stay ds t.world.field.listeners s.peers.numbers s.peers.numbers s.world.fars t.world.fars stays many refl stand.places) h.leaves.opens)

  pub cut_stands : CutShort joins s c cut t ⊎ Halts joins s c cut t → CutStand
  cut_stands (inl f) = cut_front (short_front joins s c cut t f)
  cut_stands (inr (inl h)) = cut_halts h
  cut_stands (inr (inr (inl h))) = forge_halts h
  cut_stands (inr (inr (inr h))) = raw_halts h

  pub cut_numbers : CutShort joins s c cut t ⊎ Halts joins s c cut t → KeepsNumbers s (cut_stretch c joins cut) t
  cut_numbers (inl short) =
      let f = short_front joins s c cut t short in
      let after : t.peers.numbers ≡ (state_after s f.0.joins c cut None).peers.numbers = ap (λ (z : State). z.peers.numbers) f.2.after in
      record {
        over = λ l open_ none. after ∙ ended_in s f.0.joins c cut None l open_ (sym (ap (λ (z : State). z.link) f.2.after) ∙ none);
        within = λ opener id general begins. after ∙ begun_within s f.0.joins c cut None opener id general begins;
      }
  cut_numbers (inr (inl h)) =
      let same : t.peers.numbers ≡ s.peers.numbers = ap (λ (x : Peers). x.numbers) h.leaves.peers ∙ same_numbers (Some h.on) s.peers t.world.fars in
      record { over = λ l open_ none. same; within = λ opener id general begins. same }
  cut_numbers (inr (inr (inl h))) =
      let same : t.peers.numbers ≡ s.peers.numbers = ap (λ (x : Peers). x.numbers) h.leaves.peers ∙ same_numbers s.link s.peers s.world.fars in
      record { over = λ l open_ none. same; within = λ opener id general begins. same }
  cut_numbers (inr (inr (inr h))) =
      let same : t.peers.numbers ≡ s.peers.numbers = ap (λ (x : Peers). x.numbers) h.leaves.peers ∙ forged_numbers (raw_opens h.id h.frames cut) s h.id t.world.fars in
      record { over = λ l open_ none. same; within = λ opener id general begins. same }

pub cut_link_law : CutLinkLaw
cut_link_law lines numbers journal last leads joins c cut t off =
    subst (λ ns. AllByRecursion KeepsLinkLaw (told.stories_behind last (cut_stretch c joins cut) t (stories_of ns journal))) leads.joins
    (let ns : List Joins = map (λ (g : Given). g.joins) leads.given in
    let stand = along first_state last leads.given journal [] first_stand leads.steps in
    let ys : List Story = told.stories_from first_state [] ns journal in
    let whole = same_from step first_state last leads.given journal [] [] first_stand (subst (λ es. EachLegal first_state leads.given es last) (sym (append-nil journal)) leads.steps) in
    let after = cut_stands last t joins c cut _ stand off in
    let same = same_behind last t (cut_stretch c joins cut) _ stand (cut_numbers last t joins c cut _ stand off) after in
    let keep = (all_keep (view_of t) t.link _ after.stand).0 in
    subst (λ zs. AllByRecursion KeepsLinkLaw (told.stories_behind last (cut_stretch c joins cut) t zs)) (sym whole) (subst (AllByRecursion KeepsLinkLaw) (sym same) keep))

pub cut_arrival_law : CutArrivalLaw
cut_arrival_law lines numbers journal last leads joins c cut t off =
    subst (λ ns. AllByRecursion (IfPayloads IsFrontOfPayloads) (told.stories_behind last (cut_stretch c joins cut) t (stories_of ns journal))) leads.joins
    (let ns : List Joins = map (λ (g : Given). g.joins) leads.given in
    let stand = along first_state last leads.given journal [] first_stand leads.steps in
    let ys : List Story = told.stories_from first_state [] ns journal in
    let whole = same_from step first_state last leads.given journal [] [] first_stand (subst (λ es. EachLegal first_state leads.given es last) (sym (append-nil journal)) leads.steps) in
    let after = cut_stands last t joins c cut _ stand off in
    let same = same_behind last t (cut_stretch c joins cut) _ stand (cut_numbers last t joins c cut _ stand off) after in
    let kept = kept_along first_state leads.given journal last [] (record { all = tt; going = tt }) leads.steps in
    subst (λ zs. AllByRecursion (IfPayloads IsFrontOfPayloads) (told.stories_behind last (cut_stretch c joins cut) t zs)) (sym whole)
    (subst (AllByRecursion (IfPayloads IsFrontOfPayloads)) (sym same) (cut_arrived last t joins c cut _ kept off)))
