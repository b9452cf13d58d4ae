-- The law of links, step by step over a journal.
use Rattle.std.proofs.Common.{◌≡◌, ℕ, suc, ◌+◌, List, [], ◌∷◌, ◌++◌, map, length, Bool, true, false, if◌then◌else◌, Option, Some, None, IsSome, refl, sym, ◌∙◌, ap, subst}
use Rattle.std.specs.List.{AllByRecursion}
use Rattle.std.proofs.lemmas.List.{append-nil, append_assoc, length-append, length-map, map-append}
use Rattle.nfc_base.specs.declared.event.Event.{Event}
use Rattle.nfc_base.specs.declared.event.Fate.{Fate}
use Rattle.air_core.specs.Conversation.{queue_after, Over, replay}
use Rattle.llcp_link.specs.State.{restarted}
use Rattle.snep_core.specs.Server.{Received as Accepted, serving}
use Rattle.snep_core.specs.Talk.{client_sap, sap_of_slot}
use Rattle.bench_script.specs.declared.command.Command.{Command}
use Rattle.bench_script.specs.declared.command.Command.TheVariants as commands
use Rattle.bench_script.specs.declared.command.Command.TheVariants.{Skip, Fates, PlaceT2, PlaceT3, PlaceT4, PlaceT5, PlacePeer, Lock, Busy, Offer, Remove, Dump, Inbox, Find, Crowd, Poll3, Read, Read3}
use Rattle.bench_script.specs.declared.command.Command.TheVariants.{Write, Write3, Link, Forge, Raw, Put, Get, Lookup, OnPut, OnGet, Unlink}
use Rattle.bench_script.specs.declared.command.DeviceId.{DeviceId}
use Rattle.bench_script.specs.DeviceIds.{bytes_of}
use Rattle.bench_script.specs.Messages.{message_of}
use Rattle.bench_devices.specs.declared.device.Device.{Device}
use Rattle.bench_devices.specs.Device.{device_locked, device_busy}
use Rattle.bench_devices.specs.Keeping.{AllStayDevices}
use Rattle.bench_devices.specs.Placed.{device_with}
use Rattle.bench_world.specs.declared.entry.Answer.{Answer}
use Rattle.bench_world.specs.declared.entry.Answer.TheVariants as answers
use Rattle.bench_world.specs.declared.entry.Entry.{Entry}
use Rattle.bench_world.specs.World.{FarEnd, WholeWorld, Stable, bench_air, stable}
use Rattle.bench_world.specs.Forging.{forged_general, opens_link}
use Rattle.link_calls.specs.Asking.{LinkAsking, Does, Closes, Finding, Getting, put_from, Putting}
use Rattle.bench_world.specs.Calls.{AllAdd, OfEnd, asked_behind, told_asked, with_accepted}
use Rattle.bench_world.specs.Legal.{State, Given, Joins, Accepts, IsPeerPlaced, AnswerBy, AnswerLaw, ForgeLeaves, FrontOf, LegalStep, EachLegal, world_at_start, changed, due, due_by, peer_end_of}
use Rattle.bench_world.specs.Legal.{first_state, link_after, link_left, peers_after, peers_forged, peers_left, world_after, state_after, RawOpensPeer}
use Rattle.bench_world.specs.Rawing.{raw_opens}
use Rattle.nfc_base.specs.Signal.{Signal}
use Rattle.bench_devices.specs.AnyFrame.{peer_place, peers_in}
use Rattle.bench_world.proofs.by_hand.RawGrows.{all_grow, all_long}
use Rattle.bench_world.proofs.link_law.RawStories.{raw_stands}
use Rattle.std.specs.Prelude.{◌≤◌}
use Rattle.bench_world.specs.Linking.{LinkTells, link_if, own_general}
use Rattle.bench_world.specs.LinkLaw.{AreCounted, KeepsLinkLaw, by_link, numbers_by_link, opener_of, openers_in, told_link, told_links}
use Rattle.bench_world.specs.Links.{OpenLink, end_numbered, ended, ended_unless, is_with, with_link_if, with_link_within}
use Rattle.bench_world.specs.Peers.{Peers, new_end, next_number, placed_under}
use Rattle.bench_world.specs.Stories.{Opener, ByForge, ByLink, Story, Stretch, Beginning, BeginsAndEnds, NothingBegins, beginning, begun_by, story_of, new_story, story_if, story_within, whole_of}
use Rattle.bench_world.specs.Stories.{last_goes_on, open_goes_on, puts_in, stretch_of, ByRaw}
use Rattle.bench_world.proofs.open_link.Talks.{on_link, still_on}
use Rattle.bench_world.proofs.devices.AtNumbers.{AreHeld, Held, held, held_at, held_offered, at_own_place, more_held, same_held, with_held}
use Rattle.bench_world.proofs.devices.FarStays.{far_stay}
use Rattle.bench_world.proofs.devices.HeldOn.{nothing_sent}
use Rattle.bench_world.proofs.link_law.PayloadsKept.{unless_numbers}
use Rattle.bench_world.proofs.devices.PeersNumbered.{HavePlaces, busy_kind, locked_kind, number_under, places_changed, places_more, places_stay}
use Rattle.snep_core.specs.Links.{Told}
use Rattle.link_calls.specs.declared.request.SlotMessage.{SlotMessage}
use Rattle.far_air.specs.FarWorld.{with_numbers}
use Rattle.air_core.specs.laws.Turning.{due_weaker}
use Rattle.bench_world.specs.Asked.{asked_on_link, slot_messages}
use Rattle.bench_world.proofs.calm.CompleteLinks.{over_end}
use Rattle.bench_world.proofs.link_law.PutsTold.{AreTold}
use Rattle.bench_world.proofs.link_law.Talked.{AddsBy, adds_all, apart_of, none_behind, puts_asked, talk_begins}
use Rattle.bench_world.proofs.link_law.StoriesHere.{PlacesOf, Stand, StandBy, ended_closed, view_at, view_of}
use Rattle.bench_world.proofs.link_law.StoriesOnLink.{call_over, left_open, link_begins, linked_number, linked_peer, messages_of, talk_over, tolds_of}
use Rattle.bench_world.proofs.link_law.StoriesStand.{View, at, Closed, Covered, Opened, IsInStep, closed_keep, open_keep}
use Rattle.bench_world.proofs.link_law.StoriesStep.{as_many_held, as_many_offered, as_many_with, base_held, many_numbers, no_link, own_below, peer_more, peer_stands, removed_stands, same_link}
use Rattle.bench_world.proofs.link_law.StoriesStep.{same_peer, same_tag, tag_more, tag_stands}
use Rattle.bench_world.proofs.link_law.StoriesWithin.{within_covered, within_stands}
use Rattle.bench_world.proofs.open_link.Unlinking.{count_ended, same_numbers}
use Rattle.bench_world.proofs.link_law.Tales.{goes_on, stories_behind, stories_from}

abbrev pub view_by : Peers → List (Option Held) → View
view_by p ks = record { numbers = p.numbers; placed = next_number p; links = p.links; held = ks }

module _ (w : WholeWorld) (q : List Fate) (p : Peers) (ys : List Story) (o : Option OpenLink) (stand : Stand (record { world = w; queue = q; peers = p; link = o }) ys) (g : Given)
    (told : Option Answer) where
  abbrev s : State
  s = record { world = w; queue = q; peers = p; link = o }

  abbrev stretch : Command → List Event → Stretch
  stretch c es = record { command = c; joins = g.joins; events = es; told = told }

  abbrev behind : Command → List Event → State
  behind c es = state_after s g.joins c es told

  abbrev Steps : Command → List Event → State → Type 0
  Steps c es t = Stand t (stories_behind s (stretch c es) t ys)

  -- where nothing was sent
  pub quietly : (c : Command) (es : List Event) (t : State) → FrontOf s g c es told t → es ≡ [] → Steps c es (behind c []) → Steps c es t
  quietly c es t front none steps = subst (Steps c es) (sym (front.after ∙ ap (behind c) none)) steps

  -- where something was, each device keeps its place and each peer its number
  pub places_behind : (c : Command) (es : List Event) (ps : List (Option ℕ)) → (changed s c).world.field.listeners ≡ w.field.listeners → length (world_after s g.joins c es).fars ≡ length w.fars
      → ps ≡ p.numbers
      → HavePlaces (world_after s g.joins c es).field.listeners ps (world_after s g.joins c es).fars
  places_behind c es ps devices many numbers =
      let now : WholeWorld = world_after s g.joins c es in
      places_stay w.field.listeners now.field.listeners p.numbers ps w.fars now.fars
      (subst (λ ds. AllStayDevices ds now.field.listeners) devices (far_stay es (world_at_start s g.joins c)).stay) many numbers stand.places

  -- a tag is placed, and a peer
  pub tag_placed : (c : Command) (es : List Event) → (changed s c).link ≡ o → (behind c []).link ≡ o → puts_in c told ≡ [] → beginning c es told ≡ NothingBegins
      → view_of (behind c []) ≡ tag_more s ys stand → PlacesOf (behind c []) → Steps c es (behind c [])
  tag_placed c es still same puts begins view places =
      same_link s (behind c []) (stretch c es) ys stand puts begins still same places (λ l is. ap (λ v. at v l.peer) view ∙ same_tag s ys stand l.peer)
      (λ h. subst (λ v. StandBy v o ys) (sym view) (tag_stands s ys stand h))

  -- a command that changes nothing of peers
  pub nothing_changed : (c : Command) (es : List Event) → (changed s c).link ≡ o → (behind c []).link ≡ o → puts_in c told ≡ [] → beginning c es told ≡ NothingBegins
      → view_of (behind c []) ≡ view_of s → PlacesOf (behind c []) → Steps c es (behind c [])
  nothing_changed c es still same puts begins view places =
      same_link s (behind c []) (stretch c es) ys stand puts begins still same places (λ l is. ap (λ v. at v l.peer) view) (λ h. subst (λ v. StandBy v o ys) (sym view) h)

  -- one that begins with a reset
  pub reset : (c : Command) (es : List Event) → beginning c es told ≡ NothingBegins → (changed s c).link ≡ None → (behind c es).link ≡ None → (behind c es).peers ≡ ended o w.fars p
      → (changed s c).world.field.listeners ≡ w.field.listeners → map held (world_after s g.joins c es).fars ≡ map held w.fars → Steps c es (behind c es)
  reset c es begins none gone peers devices same =
      no_link s (behind c es) (stretch c es) ys begins none gone
      (places_behind c es (behind c es).peers.numbers devices (as_many_held (world_after s g.joins c es).fars w.fars same) (ap (λ (x : Peers). x.numbers) peers ∙ same_numbers o p w.fars))
      (subst (λ x. Closed (view_at x (world_after s g.joins c es).fars) ys) (sym peers)
      (subst (λ ks. Closed (view_by (ended o w.fars p) ks) ys) (sym same) (ended_closed o p w.fars ys stand.stand)))

  -- a new peer's list is empty
  abbrev pub new_held : ℕ → Held
  new_held limit = record { limit = limit; accepted = [] }

  pub placed_view : (id : List ℕ) (lr miu window limit : ℕ) → view_of (behind (PlacePeer id lr miu window limit) []) ≡ peer_more s ys stand (new_held limit) refl
  placed_view id lr miu window limit =
      let V : ℕ → List (Option Held) → View = λ n ks. record { numbers = p.numbers ++ Some (next_number p) ∷ []; placed = n; links = p.links; held = ks } in
      let end : Option FarEnd = Some (new_end miu window limit) in
      ap (λ n. V n (map held (w.fars ++ end ∷ []))) (length-append p.gone (None ∷ [])) ∙ ap (V (next_number p + 1)) (map-append held w.fars (end ∷ []))

  pub peer_placed : (id : List ℕ) (lr miu window limit : ℕ) (es : List Event) → Steps (PlacePeer id lr miu window limit) es (behind (PlacePeer id lr miu window limit) [])
  peer_placed id lr miu window limit es =
      let c : Command = PlacePeer id lr miu window limit in
      let k : Held = new_held limit in
      let view : view_of (behind c []) ≡ peer_more s ys stand k refl = placed_view id lr miu window limit in
      same_link s (behind c []) (stretch c es) ys stand refl refl refl refl
      (places_more w.field.listeners _ p.numbers (Some (next_number p)) w.fars _ (many_numbers s ys stand) (λ peer. refl) stand.places)
      (λ l is. ap (λ v. at v l.peer) view ∙ same_peer s ys stand k refl l.peer (own_below s ys stand l is))
      (λ h. subst (λ v. StandBy v o ys) (sym view) (peer_stands s ys stand k refl h))

  pub offered_here : (id : DeviceId) (key value : List ℕ) (es : List Event) → Steps (Offer id key value) es (behind (Offer id key value) [])
  offered_here id key value es =
      let c : Command = Offer id key value in
      nothing_changed c es refl refl refl refl (ap (view_by p) (held_offered key value (bytes_of id) w.field.listeners w.fars stand.places.fars))
      (record { fars = as_many_offered _ (bytes_of id) w.field.listeners w.fars stand.places.fars ∙ stand.places.fars; numbers = stand.places.numbers })

  pub removed_here : (id : DeviceId) (es : List Event) → Steps (Remove id) es (behind (Remove id) [])
  removed_here id es =
      removed_stands w q p (stretch (Remove id) es) ys (bytes_of id) _ o (is_with o (placed_under (bytes_of id) w.field.listeners p.numbers)) refl refl stand

-- a link is opened, or not
module _ (w : WholeWorld) (q : List Fate) (p : Peers) (ys : List Story) (o : Option OpenLink) (stand : Stand (record { world = w; queue = q; peers = p; link = o }) ys) (g : Given) (a : Answer) where
  abbrev unopened : State
  unopened = record { world = w; queue = q; peers = p; link = o }

  link_here : (id : List ℕ) (miu window : ℕ) (es : List Event) → map held (world_after unopened g.joins (Link id miu window) es).fars ≡ map held w.fars
      → ((n : ℕ) → a ≡ answers.Linked n → n ≡ length p.links + 1) → (b : Answer) → a ≡ b
      → Stand (state_after unopened g.joins (Link id miu window) es (Some b))
      (stories_behind unopened (record { command = Link id miu window; joins = g.joins; events = es; told = Some b }) (state_after unopened g.joins (Link id miu window) es (Some b)) ys)
  link_here id miu window es same next (answers.Linked n) is =
      let c : Command = Link id miu window in
      let now : WholeWorld = world_after unopened g.joins c es in
      let ends : Peers = ended o w.fars p in
      let closed : Closed (view_at ends now.fars) ys = subst (λ ks. Closed (view_by ends ks) ys) (sym same) (ended_closed o p w.fars ys stand.stand) in
      let numbers : ends.numbers ≡ p.numbers = same_numbers o p w.fars in
      link_begins now (queue_after (changed unopened c).queue es) ends id w.field.listeners w.fars same
      (places_behind w q p ys o stand g (Some a) c es ends.numbers refl (as_many_held now.fars w.fars same) numbers) ys closed n (own_general miu)
      (next n is ∙ ap (λ k. k + 1) (sym (count_ended o p w.fars)))
      (link_if (placed_under id w.field.listeners p.numbers) (device_with id w.field.listeners) miu window)
      (λ l e. ap (placed_under id w.field.listeners) numbers ∙ linked_peer (placed_under id w.field.listeners p.numbers) (device_with id w.field.listeners) miu window l e)
  link_here id miu window es same next b is =
      let c : Command = Link id miu window in
      let t : State = state_after unopened g.joins c es (Some b) in
      let ends : Peers = ended o w.fars p in
      no_link unopened t (record { command = c; joins = g.joins; events = es; told = Some b }) ys refl refl refl
      (places_behind w q p ys o stand g (Some a) c es ends.numbers refl (as_many_held (world_after unopened g.joins c es).fars w.fars same) (same_numbers o p w.fars))
      (subst (λ ks. Closed (view_by ends ks) ys) (sym same) (ended_closed o p w.fars ys stand.stand))

-- Payloads that were written by hand were sent over a link of their own: to the peer with this number, whose list gained these.
module _ (w : WholeWorld) (q : List Fate) (p : Peers) (ys : List Story) (o : Option OpenLink) (stand : Stand (record { world = w; queue = q; peers = p; link = o }) ys) (joins : Joins)
    (told : Option Answer)
    (id : List ℕ) (payloads : List (List ℕ)) (es : List Event) where
  abbrev unsent : State
  unsent = record { world = w; queue = q; peers = p; link = o }

  abbrev sent : Stretch
  sent = record { command = Forge id payloads; joins = joins; events = es; told = told }

  both_held : AreHeld p.numbers (map held w.fars)
  both_held = (base_held (view_of unsent) o ys stand.stand).0

  module _ (peer : ℕ) (more : List Accepted) (now : WholeWorld) (ends : (stable now).ends ≡ with_accepted more peer p.numbers (stable w).ends) where
    grown : map held now.fars ≡ with_held more peer p.numbers (map held w.fars)
    grown = more_held now w more peer p.numbers ends

    pub as_many_sent : length now.fars ≡ length w.fars
    as_many_sent =
        sym (length-map now.fars held) ∙ ap length grown ∙ as_many_with more peer p.numbers (map held w.fars) both_held ∙ length-map w.fars held

  pub forged_stands : (t : State) (peer : ℕ) → placed_under id w.field.listeners p.numbers ≡ Some peer → (more : List Accepted)
      → (stable t.world).ends ≡ with_accepted more peer p.numbers (stable w).ends
      → t.peers ≡ with_link_within peer w.fars t.world.fars (ended o w.fars p) → t.link ≡ None → HavePlaces t.world.field.listeners p.numbers t.world.fars → opens_link id payloads es ≡ true
      → Stand t (stories_behind unsent sent t ys)
  forged_stands t peer placed more ends peers gone places opened =
      let before : Peers = ended o w.fars p in
      let numbers : before.numbers ≡ p.numbers = same_numbers o p w.fars in
      within_stands unsent t sent ys before id forged_general ByForge (λ y. tt) (ended_closed o p w.fars ys stand.stand) numbers (count_ended o p w.fars) peer placed more
      (grown peer more t.world ends ∙ ap (λ ns. with_held more peer ns (map held w.fars)) (sym numbers)) peers refl
      (ap (λ v. if v then BeginsAndEnds ByForge id forged_general else NothingBegins) opened) refl gone
      (subst (λ ns. HavePlaces t.world.field.listeners ns t.world.fars) (sym (ap (λ (x : Peers). x.numbers) peers ∙ numbers)) places)

  pub forged_covered : (t : State) (peer : ℕ) → placed_under id w.field.listeners p.numbers ≡ Some peer → (more : List Accepted)
      → (stable t.world).ends ≡ with_accepted more peer p.numbers (stable w).ends
      → t.peers ≡ with_link_within peer w.fars t.world.fars (ended o w.fars p) → Covered (view_at (ended o w.fars p) w.fars) → Covered (view_of t)
  forged_covered t peer placed more ends peers all =
      let before : Peers = ended o w.fars p in
      let numbers : before.numbers ≡ p.numbers = same_numbers o p w.fars in
      within_covered unsent t sent ys before id forged_general ByForge (λ y. tt) (ended_closed o p w.fars ys stand.stand) numbers (count_ended o p w.fars) peer placed more
      (grown peer more t.world ends ∙ ap (λ ns. with_held more peer ns (map held w.fars)) (sym numbers)) peers refl all

-- so behind the command, whether it is answered or cut off
module _ (w : WholeWorld) (q : List Fate) (p : Peers) (ys : List Story) (o : Option OpenLink) (stand : Stand (record { world = w; queue = q; peers = p; link = o }) ys) (g : Given)
    (told : Option Answer)
    (id : List ℕ) (payloads : List (List ℕ)) (es : List Event) where
  abbrev forged_from : State
  forged_from = record { world = w; queue = q; peers = p; link = o }

  abbrev forged : Command
  forged = Forge id payloads

  abbrev forged_then : State
  forged_then = state_after forged_from g.joins forged es told

  abbrev ForgedStands : Type 0
  ForgedStands = Stand forged_then (stories_behind forged_from (record { command = forged; joins = g.joins; events = es; told = told }) forged_then ys)

  pub forge_sent : opens_link id payloads es ≡ true → (peer : ℕ) → placed_under id w.field.listeners p.numbers ≡ Some peer → (more : List Accepted)
      → (stable (world_after forged_from g.joins forged es)).ends ≡ with_accepted more peer p.numbers (stable w).ends → ForgedStands
  forge_sent opened peer placed more ends =
      let now : WholeWorld = world_after forged_from g.joins forged es in
      forged_stands w q p ys o stand g.joins told id payloads es forged_then peer placed more ends
      (ap (λ v. peers_forged v forged_from (DeviceId.A id) now.fars) opened ∙ ap (λ n. with_link_if n w.fars now.fars (ended o w.fars p)) placed) refl
      (places_behind w q p ys o stand g told forged es p.numbers refl (as_many_sent w q p ys o stand g.joins told id payloads es peer more now ends) refl) opened

  pub forge_unsent : opens_link id payloads es ≡ false → stable (world_after forged_from g.joins forged es) ≡ stable w → ForgedStands
  forge_unsent unopened stays =
      let now : WholeWorld = world_after forged_from g.joins forged es in
      reset w q p ys o stand g told forged es (ap (λ v. if v then BeginsAndEnds ByForge id forged_general else NothingBegins) unopened) refl refl
      (ap (λ v. peers_forged v forged_from (DeviceId.A id) now.fars) unopened) refl (same_held now w (ap (λ (z : Stable). z.ends) stays))

-- Frames of a script's own were sent, whether that is answered or cut off.
pub same_many : (ds es : List Device) → AllStayDevices ds es → length es ≡ length ds
same_many [] [] stay = refl
same_many [] (e ∷ es) stay = absurd stay
same_many (d ∷ ds) [] stay = absurd stay
same_many (d ∷ ds) (e ∷ es) stay = ap suc (same_many ds es stay.1)

module _ (w : WholeWorld) (q : List Fate) (p : Peers) (ys : List Story) (o : Option OpenLink) (stand : Stand (record { world = w; queue = q; peers = p; link = o }) ys) (g : Given)
    (told : Option Answer)
    (id : DeviceId) (frames : List Signal) (es : List Event) where
  abbrev raw_from : State
  raw_from = record { world = w; queue = q; peers = p; link = o }

  abbrev raws : Command
  raws = Raw id frames

  abbrev raw_then : State
  raw_then = state_after raw_from g.joins raws es told

  pub raw_after : peers_in w.field.listeners ≤ 1 → RawOpensPeer raw_from id frames es → Stand raw_then
      (stories_behind raw_from (record { command = raws; joins = g.joins; events = es; told = told }) raw_then ys)
  raw_after few opens =
      let first : WholeWorld = world_at_start raw_from g.joins raws in
      let now : WholeWorld = world_after raw_from g.joins raws es in
      let many : length now.fars ≡ length w.fars = all_long es first stand.places.fars ∙ same_many w.field.listeners now.field.listeners (far_stay es first).stay ∙ sym stand.places.fars in
      raw_stands w q p ys o stand g.joins told id frames es few raw_then (all_grow es (peer_place w.field.listeners) first stand.places.fars few refl) refl refl
      (places_behind w q p ys o stand g told raws es p.numbers refl many refl) opens

-- Commands on the link that is open.
module _ (w : WholeWorld) (q : List Fate) (p : Peers) (ys : List Story) (l : OpenLink) (stand : Stand (record { world = w; queue = q; peers = p; link = Some l }) ys) (g : Given)
    (told : Option Answer) where
  abbrev pub on : State
  on = record { world = w; queue = q; peers = p; link = Some l }

  abbrev pub Goes : Command → List Event → State → Type 0
  Goes c es t = Stand t (stories_behind on (record { command = c; joins = g.joins; events = es; told = told }) t ys)

  -- a call behind which the world is this one, and this is left of the link
  abbrev pub called_then : WholeWorld → List Fate → Option OpenLink → State
  called_then now queue left = record { world = now; queue = queue; peers = ended_unless left (Some l) now.fars p; link = left }

  open_held : AreHeld p.numbers (map held w.fars)
  open_held = (base_held (view_of on) (Some l) ys stand.stand).0

  -- What a command on the link added, whatever it asks.
  module _ (c : Command) (asked : LinkAsking) (asks : asked_on_link c ≡ Some asked) (may : Accepts on c) (es : List Event) (more : List Accepted)
      (adds : OfEnd (λ end. AddsBy asked told end more) (peer_end_of on l)) where
    abbrev x : Stretch
    x = record { command = c; joins = g.joins; events = es; told = told }

    -- the story of the open link went on by it
    pub talk_opened : (now : WholeWorld) (queue : List Fate) (left : Option OpenLink) → map held now.fars ≡ with_held more l.peer p.numbers (map held w.fars)
        → (z : Opened (view_by p (map held now.fars)) l.peer (last_goes_on (goes_on on x (called_then now queue left)) ys)) × (AreTold (tolds_of asked told) → IsInStep z.now.story)
    talk_opened now queue left accepted =
        let t : State = called_then now queue left in
        let ws : List SlotMessage = messages_of asked in
        let ts : List Told = tolds_of asked told in
        let P : List (Option Held) → Type 0 = λ ks. (z : Opened (view_by p ks) l.peer (last_goes_on (goes_on on x t) ys)) × (AreTold ts → IsInStep z.now.story) in
        subst P (sym accepted)
        (talk_over on t l ys stand.stand x ws (apart_of on c asked asks may) ts (puts_asked c asked asks told) more
        (over_end (λ e. AddsBy asked told e more) (λ e. AllAdd ws e ts more) (λ e. adds_all asked told e more) (peer_end_of on l) adds)
        (unless_numbers left (Some l) now.fars p) accepted)

    pub talk_so : (now : WholeWorld) (queue : List Fate) (left : Option OpenLink) → HavePlaces now.field.listeners p.numbers now.fars
        → map held now.fars ≡ with_held more l.peer p.numbers (map held w.fars)
        → ((k : OpenLink) → left ≡ Some k → (k.peer ≡ l.peer) × AreTold (tolds_of asked told)) → Goes c es (called_then now queue left)
    talk_so now queue left places accepted goes =
        let t : State = called_then now queue left in
        let zs : List Story = last_goes_on (goes_on on x t) ys in
        let z : (z : Opened (view_by p (map held now.fars)) l.peer zs) × (AreTold (tolds_of asked told) → IsInStep z.now.story) = talk_opened now queue left accepted in
        let over : Stand t zs = call_over now queue p l zs z.0 left places (λ k e. let ends = goes k e in (ends.0, z.1 ends.1)) in
        let still : (changed on c).link ≡ Some l = ap (λ (s : State). s.link) (still_on on c (on_link c asked asks)) in
        let told_so : stories_behind on x t ys ≡ zs =
        ap (λ (b : Beginning). open_goes_on (changed on c).link (goes_on on x t) ys ++ begun_by b (goes_on on x t) on t) (talk_begins c es told (on_link c asked asks))
        ∙ append-nil (open_goes_on (changed on c).link (goes_on on x t) ys)
        ∙ ap (λ k. open_goes_on k (goes_on on x t) ys) still in
        subst (Stand t) (sym told_so) over

    -- as many far ends are there
    pub as_many_talked : (now : WholeWorld) → map held now.fars ≡ with_held more l.peer p.numbers (map held w.fars) → length now.fars ≡ length w.fars
    as_many_talked now accepted = sym (length-map now.fars held) ∙ ap length accepted ∙ as_many_with more l.peer p.numbers (map held w.fars) open_held ∙ length-map w.fars held

    abbrev pub left_behind : Option OpenLink
    left_behind = asked_behind asked told (Some l) g.joins.own es

    pub talked_then : (t : State) → FrontOf on g c es told t → t ≡ called_then (world_after on g.joins c es) (queue_after q es) left_behind
    talked_then t front =
        let now : WholeWorld = world_after on g.joins c es in
        let still : changed on c ≡ on = still_on on c (on_link c asked asks) in
        let S : List Fate → Peers → Option OpenLink → State = λ u ps o. record { world = now; queue = u; peers = ps; link = o } in
        let link_is : link_after on g.joins c es told ≡ left_behind = ap (λ o. link_left o on g.joins c es told) asks in
        let peers_is : peers_after on g.joins c es told ≡ ended_unless left_behind (Some l) now.fars p =
        ap (λ o. peers_left o on g.joins c es told) asks ∙ ap (λ o. ended_unless o (Some l) now.fars p) link_is in
        front.after ∙ ap (λ u. S u (peers_after on g.joins c es told) (link_after on g.joins c es told)) (ap (λ (s : State). queue_after s.queue es) still)
        ∙ ap (λ ps. S (queue_after q es) ps (link_after on g.joins c es told)) peers_is ∙ ap (S (queue_after q es) (ended_unless left_behind (Some l) now.fars p)) link_is

    pub talked : (t : State) → FrontOf on g c es told t → (stable (world_after on g.joins c es)).ends ≡ with_accepted more l.peer p.numbers (stable w).ends
        → ((a : Answer) → told ≡ Some a → told_asked asked l g.joins.own es ≡ Some a) → Goes c es t
    talked t front ends tells =
        let now : WholeWorld = world_after on g.joins c es in
        let still : changed on c ≡ on = still_on on c (on_link c asked asks) in
        let accepted : map held now.fars ≡ with_held more l.peer p.numbers (map held w.fars) = more_held now w more l.peer p.numbers ends in
        let places : HavePlaces now.field.listeners p.numbers now.fars =
        places_behind w q p ys (Some l) stand g told c es p.numbers (ap (λ (s : State). s.world.field.listeners) still) (as_many_talked now accepted) refl in
        subst (Goes c es) (sym (talked_then t front)) (talk_so now (queue_after q es) left_behind places accepted (λ k e. left_open asked told l k g.joins.own es tells e))

-- Where no link is open nothing is sent, and nothing changes.
module _ (w : WholeWorld) (q : List Fate) (p : Peers) (ys : List Story) (stand : Stand (record { world = w; queue = q; peers = p; link = None }) ys) (g : Given) (told : Option Answer) where
  abbrev off_link : State
  off_link = record { world = w; queue = q; peers = p; link = None }

  -- what is then
  abbrev pub quiet_then : State
  quiet_then = record { world = with_numbers (replay bench_air (with_numbers w g.joins.far) []) []; queue = q; peers = p; link = None }

  none_sent : (c : Command) (asked : LinkAsking) → asked_on_link c ≡ Some asked → (es : List Event) (t : State) → FrontOf off_link g c es told t → es ≡ []
  none_sent c asked asks es t front =
      nothing_sent (world_at_start off_link g.joins c) es front.turns
      (due_weaker (λ ns. Over) (due off_link g c) (λ ns n e d. sym (ap (λ o. due_by o off_link g c ns) asks) ∙ e) [] es front.each)

  after_none : (c : Command) (asked : LinkAsking) → asked_on_link c ≡ Some asked → state_after off_link g.joins c [] told ≡ quiet_then
  after_none c asked asks =
      let W : State → WholeWorld = λ s. with_numbers (replay bench_air (with_numbers s.world g.joins.far) []) [] in
      let S : WholeWorld → List Fate → Peers → Option OpenLink → State = λ u f ps o. record { world = u; queue = f; peers = ps; link = o } in
      let link_is : link_after off_link g.joins c [] told ≡ None = ap (λ o. link_left o off_link g.joins c [] told) asks ∙ none_behind asked told g.joins.own in
      let peers_is : peers_after off_link g.joins c [] told ≡ p =
      ap (λ o. peers_left o off_link g.joins c [] told) asks ∙ ap (λ o. ended_unless o None (world_after off_link g.joins c []).fars p) link_is in
      ap (λ s. S (W s) (queue_after s.queue []) (peers_after off_link g.joins c [] told) (link_after off_link g.joins c [] told)) (still_on off_link c (on_link c asked asks))
      ∙ ap (λ ps. S (W off_link) q ps (link_after off_link g.joins c [] told)) peers_is ∙ ap (S (W off_link) q p) link_is

  pub none_then : (c : Command) (asked : LinkAsking) → asked_on_link c ≡ Some asked → (es : List Event) (t : State) → FrontOf off_link g c es told t → t ≡ quiet_then
  none_then c asked asks es t front =
      front.after ∙ ap (λ xs. state_after off_link g.joins c xs told) (none_sent c asked asks es t front) ∙ after_none c asked asks

  pub talk_none : (c : Command) (asked : LinkAsking) → asked_on_link c ≡ Some asked → (es : List Event) (t : State) → FrontOf off_link g c es told t
      → Stand t (stories_behind off_link (record { command = c; joins = g.joins; events = es; told = told }) t ys)
  talk_none c asked asks es t front =
      let x : Stretch = record { command = c; joins = g.joins; events = es; told = told } in
      let still : changed off_link c ≡ off_link = still_on off_link c (on_link c asked asks) in
      subst (λ u. Stand u (stories_behind off_link x u ys)) (sym (none_then c asked asks es t front))
      (no_link off_link quiet_then x ys (talk_begins c es told (on_link c asked asks)) (ap (λ (s : State). s.link) still) refl stand.places stand.stand)

-- Each legal step.
module _ (w : WholeWorld) (q : List Fate) (p : Peers) (ys : List Story) (g : Given) (a : Answer) where
  abbrev from : Option OpenLink → State
  from o = record { world = w; queue = q; peers = p; link = o }

  abbrev so : Option OpenLink → Command → List Event → State → Type 0
  so o c es t = Stand t (stories_behind (from o) (record { command = c; joins = g.joins; events = es; told = Some a }) t ys)

  after_front : (o : Option OpenLink) (c : Command) (es : List Event) (t : State) → FrontOf (from o) g c es (Some a) t → so o c es (state_after (from o) g.joins c es (Some a)) → so o c es t
  after_front o c es t front steps = subst (so o c es) (sym front.after) steps

  -- a command on the link, whatever it asks
  talk_by : (o : Option OpenLink) (asked : LinkAsking) (c : Command) → asked_on_link c ≡ Some asked → (es : List Event) (t : State) → Stand (from o) ys → FrontOf (from o) g c es (Some a) t
      → AnswerBy (Some asked) (from o) g c es a → so o c es t
  talk_by None asked c asks es t stand front law = talk_none w q p ys stand g (Some a) c asked asks es t front
  talk_by (Some l) asked c asks es t stand front law =
      talked w q p ys l stand g (Some a) c asked asks front.accepted es law.more law.adds t front law.ends (λ b e. law.told.tells ∙ e)

  step_by : (o : Option OpenLink) (c : Command) (es : List Event) (t : State) → Stand (from o) ys → FrontOf (from o) g c es (Some a) t → AnswerLaw (from o) g c es a → so o c es t
  step_by o Skip es t stand front law = absurd law
  step_by o (Fates fates) es t stand front law =
      quietly w q p ys o stand g (Some a) (Fates fates) es t front (nothing_sent (world_at_start (from o) g.joins (Fates fates)) es front.turns front.each)
      (nothing_changed w q p ys o stand g (Some a) (Fates fates) es refl refl refl refl refl stand.places)
  step_by o (PlaceT2 id blocks head) es t stand front law =
      let c : Command = PlaceT2 id blocks head in
      quietly w q p ys o stand g (Some a) c es t front (nothing_sent (world_at_start (from o) g.joins c) es front.turns front.each)
      (tag_placed w q p ys o stand g (Some a) c es refl refl refl refl (ap (λ ks. record { numbers = p.numbers ++ None ∷ []; placed = next_number p; links = p.links; held = ks })
      (map-append held w.fars (None ∷ [])))
      (places_more w.field.listeners _ p.numbers None w.fars None (many_numbers (from o) ys stand) (λ peer. absurd cc) stand.places))
  step_by o (PlaceT4 id code container head) es t stand front law =
      let c : Command = PlaceT4 id code container head in
      quietly w q p ys o stand g (Some a) c es t front (nothing_sent (world_at_start (from o) g.joins c) es front.turns front.each)
      (tag_placed w q p ys o stand g (Some a) c es refl refl refl refl (ap (λ ks. record { numbers = p.numbers ++ None ∷ []; placed = next_number p; links = p.links; held = ks })
      (map-append held w.fars (None ∷ [])))
      (places_more w.field.listeners _ p.numbers None w.fars None (many_numbers (from o) ys stand) (λ peer. absurd cc) stand.places))
  step_by o (PlaceT3 id blocks head) es t stand front law =
      let c : Command = PlaceT3 id blocks head in
      quietly w q p ys o stand g (Some a) c es t front (nothing_sent (world_at_start (from o) g.joins c) es front.turns front.each)
      (tag_placed w q p ys o stand g (Some a) c es refl refl refl refl (ap (λ ks. record { numbers = p.numbers ++ None ∷ []; placed = next_number p; links = p.links; held = ks })
      (map-append held w.fars (None ∷ [])))
      (places_more w.field.listeners _ p.numbers None w.fars None (many_numbers (from o) ys stand) (λ peer. absurd cc) stand.places))
  step_by o (PlaceT5 id blocks size head) es t stand front law =
      let c : Command = PlaceT5 id blocks size head in
      quietly w q p ys o stand g (Some a) c es t front (nothing_sent (world_at_start (from o) g.joins c) es front.turns front.each)
      (tag_placed w q p ys o stand g (Some a) c es refl refl refl refl (ap (λ ks. record { numbers = p.numbers ++ None ∷ []; placed = next_number p; links = p.links; held = ks })
      (map-append held w.fars (None ∷ [])))
      (places_more w.field.listeners _ p.numbers None w.fars None (many_numbers (from o) ys stand) (λ peer. absurd cc) stand.places))
  step_by o (PlacePeer id lr miu window limit) es t stand front law =
      let c : Command = PlacePeer id lr miu window limit in
      quietly w q p ys o stand g (Some a) c es t front (nothing_sent (world_at_start (from o) g.joins c) es front.turns front.each) (peer_placed w q p ys o stand g (Some a) id lr miu window limit es)
  step_by o (Lock id block) es t stand front law =
      let c : Command = Lock id block in
      quietly w q p ys o stand g (Some a) c es t front (nothing_sent (world_at_start (from o) g.joins c) es front.turns front.each)
      (nothing_changed w q p ys o stand g (Some a) c es refl refl refl refl refl (places_changed (device_locked block) (locked_kind block) (bytes_of id) w.field.listeners p.numbers w.fars
      stand.places))
  step_by o (Busy id count times) es t stand front law =
      let c : Command = Busy id count times in
      quietly w q p ys o stand g (Some a) c es t front (nothing_sent (world_at_start (from o) g.joins c) es front.turns front.each)
      (nothing_changed w q p ys o stand g (Some a) c es refl refl refl refl refl (places_changed (device_busy count times) (busy_kind count times) (bytes_of id) w.field.listeners p.numbers w.fars
      stand.places))
  step_by o (Offer id key value) es t stand front law =
      let c : Command = Offer id key value in
      quietly w q p ys o stand g (Some a) c es t front (nothing_sent (world_at_start (from o) g.joins c) es front.turns front.each) (offered_here w q p ys o stand g (Some a) id key value es)
  step_by o (Remove id) es t stand front law =
      let c : Command = Remove id in
      quietly w q p ys o stand g (Some a) c es t front (nothing_sent (world_at_start (from o) g.joins c) es front.turns front.each) (removed_here w q p ys o stand g (Some a) id es)
  step_by o (Dump id) es t stand front law =
      quietly w q p ys o stand g (Some a) (Dump id) es t front (nothing_sent (world_at_start (from o) g.joins (Dump id)) es front.turns front.each)
      (nothing_changed w q p ys o stand g (Some a) (Dump id) es refl refl refl refl refl stand.places)
  step_by o (Inbox id) es t stand front law =
      quietly w q p ys o stand g (Some a) (Inbox id) es t front (nothing_sent (world_at_start (from o) g.joins (Inbox id)) es front.turns front.each)
      (nothing_changed w q p ys o stand g (Some a) (Inbox id) es refl refl refl refl refl stand.places)
  step_by o Find es t stand front law =
      after_front o Find es t front (reset w q p ys o stand g (Some a) Find es refl refl refl refl refl (same_held (world_after (from o) g.joins Find es) w (ap (λ (z : Stable). z.ends) law.stays)))
  step_by o Crowd es t stand front law =
      after_front o Crowd es t front (reset w q p ys o stand g (Some a) Crowd es refl refl refl refl refl (same_held (world_after (from o) g.joins Crowd es) w (ap (λ (z : Stable). z.ends) law.stays)))
  step_by o Poll3 es t stand front law =
      after_front o Poll3 es t front (reset w q p ys o stand g (Some a) Poll3 es refl refl refl refl refl (same_held (world_after (from o) g.joins Poll3 es) w (ap (λ (z : Stable). z.ends) law.stays)))
  step_by o (Read3 id) es t stand front law =
      after_front o (Read3 id) es t front (reset w q p ys o stand g (Some a) (Read3 id) es refl refl refl refl refl
      (same_held (world_after (from o) g.joins (Read3 id) es) w (ap (λ (z : Stable). z.ends) law.stays)))
  step_by o (Write3 id m) es t stand front law =
      after_front o (Write3 id m) es t front (reset w q p ys o stand g (Some a) (Write3 id m) es refl refl refl refl refl (same_held (world_after (from o) g.joins (Write3 id m) es) w law.stores.ends))
  step_by o (Read id) es t stand front law =
      after_front o (Read id) es t front (reset w q p ys o stand g (Some a) (Read id) es refl refl refl refl refl
      (same_held (world_after (from o) g.joins (Read id) es) w (ap (λ (z : Stable). z.ends) law.stays)))
  step_by o (Write id m) es t stand front law =
      after_front o (Write id m) es t front (reset w q p ys o stand g (Some a) (Write id m) es refl refl refl refl refl (same_held (world_after (from o) g.joins (Write id m) es) w law.stores.ends))
  step_by o (Link id miu window) es t stand front law =
      after_front o (Link id miu window) es t front
      (link_here w q p ys o stand g a id miu window es (same_held (world_after (from o) g.joins (Link id miu window) es) w (ap (λ (z : Stable). z.ends) law.stays))
      (λ n is. linked_number (DeviceId.A id) w.field.listeners (length p.links + 1) n (own_general miu) es
      (subst (LinkTells (DeviceId.A id) w.field.listeners (length p.links + 1) (own_general miu) es) is law.tells)) a refl)
  step_by o (Forge id payloads) es t stand front law = after_front o (Forge id payloads) es t front (by (opens_link id payloads es) refl law.leaves)
    where
      by : (v : Bool) → opens_link id payloads es ≡ v → ForgeLeaves v (from o) g.joins id payloads es → so o (Forge id payloads) es (state_after (from o) g.joins (Forge id payloads) es (Some a))
      by true opened sends = forge_sent w q p ys o stand g (Some a) id payloads es opened sends.peer sends.placed sends.more sends.ends
      by false unopened stays = forge_unsent w q p ys o stand g (Some a) id payloads es unopened stays
  step_by o (Raw id frames) es t stand front law = after_front o (Raw id frames) es t front (raw_after w q p ys o stand g (Some a) id frames es front.accepted.one law.opens)
  step_by o (Put m) es t stand front law = talk_by o (Does (put_from 0 (message_of m))) (Put m) refl es t stand front law
  step_by o (Get most key) es t stand front law = talk_by o (Does (Getting client_sap most key)) (Get most key) refl es t stand front law
  step_by o (Lookup name) es t stand front law = talk_by o (Does (Finding name)) (Lookup name) refl es t stand front law
  step_by o (OnPut slot m) es t stand front law = talk_by o (Does (put_from slot (message_of m))) (OnPut slot m) refl es t stand front law
  step_by o (OnGet slot most key) es t stand front law = talk_by o (Does (Getting (sap_of_slot slot) most key)) (OnGet slot most key) refl es t stand front law
  step_by o (commands.Puts puts) es t stand front law = talk_by o (Does (Putting (slot_messages puts))) (commands.Puts puts) refl es t stand front law
  step_by o Unlink es t stand front law = talk_by o Closes Unlink refl es t stand front law

pub step : (s t : State) (g : Given) (e : Entry) (ys : List Story) → Stand s ys → LegalStep s g e t → Stand t (stories_behind s (stretch_of g.joins e) t ys)
step s t g e ys stand legal = step_by s.world s.queue s.peers ys g e.answer s.link e.command e.events t stand legal.front legal.answered

-- through some entries
pub along : (s t : State) (gs : List Given) (es : List Entry) (ys : List Story) → Stand s ys → EachLegal s gs es t → Stand t (stories_from s ys (map (λ (g : Given). g.joins) gs) es)
along s t [] [] ys stand legal = subst (λ x. Stand x ys) (sym legal) stand
along s t [] (e ∷ es) ys stand legal = absurd legal
along s t (g ∷ gs) [] ys stand legal = absurd legal
along s t (g ∷ gs) (e ∷ es) ys stand legal =
    let mid : State = legal.0 in
    subst (λ x. Stand t (stories_from x (stories_behind s (stretch_of g.joins e) x ys) (map (λ (h : Given). h.joins) gs) es)) legal.1.front.after
    (along mid t gs es (stories_behind s (stretch_of g.joins e) mid ys) (step s mid g e ys stand legal.1) legal.2)

-- What stories tell, one after the other, and what entries tell.
abbrev all_of : {X : Type 0} → (Story → List X) → List Story → List X
all_of M [] = []
all_of M (y ∷ ys) = M y ++ all_of M ys

abbrev of_entries : {X : Type 0} → (Command → List Event → Answer → List X) → List Entry → List X
of_entries E [] = []
of_entries E (e ∷ es) = E e.command e.events e.answer ++ of_entries E es

all_append : {X : Type 0} (M : Story → List X) (xs ys : List Story) → all_of M (xs ++ ys) ≡ all_of M xs ++ all_of M ys
all_append M [] ys = refl
all_append M (x ∷ xs) ys = ap (λ zs. M x ++ zs) (all_append M xs ys) ∙ sym (append_assoc (M x) (all_of M xs) (all_of M ys))

all_last : {X : Type 0} (M : Story → List X) (go : Story → Story) → ((y : Story) → M (go y) ≡ M y) → (ys : List Story) → all_of M (last_goes_on go ys) ≡ all_of M ys
all_last M go same [] = refl
all_last M go same (y ∷ []) = ap (λ zs. zs ++ []) (same y)
all_last M go same (y ∷ z ∷ ys) = ap (λ zs. M y ++ zs) (all_last M go same (z ∷ ys))

-- what no stretch changes of a story, and an entry tells of the one that begins in it
module _ {X : Type 0} (M : Story → List X) (E : Command → List Event → Answer → List X) (goes : (s t : State) (x : Stretch) (y : Story) → M (goes_on s x t y) ≡ M y)
    (begins : (s t : State) (g : Given) (c : Command) (es : List Event) (a : Answer) (ys zs : List Story) → Stand s ys → Stand t zs → FrontOf s g c es (Some a) t → AnswerLaw s g c es a
    → all_of M (begun_by (beginning c es (Some a)) (goes_on s (record { command = c; joins = g.joins; events = es; told = Some a }) t) s t) ≡ E c es a) where
  open_all : (o : Option OpenLink) (s t : State) (x : Stretch) (ys : List Story) → all_of M (open_goes_on o (goes_on s x t) ys) ≡ all_of M ys
  open_all None s t x ys = refl
  open_all (Some l) s t x ys = all_last M (goes_on s x t) (λ y. goes s t x y) ys

  step_all : (s t : State) (g : Given) (e : Entry) (ys : List Story) → Stand s ys → LegalStep s g e t
      → all_of M (stories_behind s (stretch_of g.joins e) t ys) ≡ all_of M ys ++ E e.command e.events e.answer
  step_all s t g e ys stand legal =
      let x : Stretch = stretch_of g.joins e in
      let world_at_start : List Story = begun_by (beginning e.command e.events (Some e.answer)) (goes_on s x t) s t in
      all_append M (open_goes_on (changed s e.command).link (goes_on s x t) ys) world_at_start ∙ ap (λ zs. zs ++ all_of M world_at_start) (open_all (changed s e.command).link s t x ys)
      ∙ ap (λ zs. all_of M ys ++ zs) (begins s t g e.command e.events e.answer ys (stories_behind s x t ys) stand (step s t g e ys stand legal) legal.front legal.answered)

  all_along : (s t : State) (gs : List Given) (es : List Entry) (ys : List Story) → Stand s ys → EachLegal s gs es t
      → all_of M (stories_from s ys (map (λ (g : Given). g.joins) gs) es) ≡ all_of M ys ++ of_entries E es
  all_along s t [] [] ys stand legal = sym (append-nil (all_of M ys))
  all_along s t [] (e ∷ es) ys stand legal = absurd legal
  all_along s t (g ∷ gs) [] ys stand legal = absurd legal
  all_along s t (g ∷ gs) (e ∷ es) ys stand legal =
      let mid : State = legal.0 in
      let ns : List Joins = map (λ (h : Given). h.joins) gs in
      subst (λ x. all_of M (stories_from x (stories_behind s (stretch_of g.joins e) x ys) ns es) ≡ all_of M ys ++ of_entries E (e ∷ es)) legal.1.front.after
      (all_along mid t gs es (stories_behind s (stretch_of g.joins e) mid ys) (step s mid g e ys stand legal.1) legal.2
      ∙ ap (λ zs. zs ++ of_entries E es) (step_all s mid g e ys stand legal.1) ∙ append_assoc (all_of M ys) (E e.command e.events e.answer) (of_entries E es))

-- Where `linked` is told one begins, of its number.
abbrev OneBegins : List Story → ℕ → List ℕ → Type 0
OneBegins ys n general = (peer : ℕ) × (end : FarEnd) × (ys ≡ new_story n ByLink peer general end ∷ [])

end_at : (n : ℕ) (general : List ℕ) (peer : ℕ) (o : Option FarEnd) (k : Held) → held o ≡ Some k → OneBegins (story_of n general peer o) n general
end_at n general peer None k is = absurd cc
end_at n general peer (Some end) k is = (peer, end, refl)

begun_one : (t : State) (zs : List Story) (n : ℕ) (general : List ℕ) (o : Option OpenLink) → StandBy (view_of t) o zs → IsSome o → OneBegins (story_if n general o t) n general
begun_one t zs n general None stand some = absurd (let clash : false ≡ true = some in cc)
begun_one t zs n general (Some l) stand some =
    end_at n general l.peer (end_numbered l.peer t.peers.numbers t.world.fars) stand.opened.going.there
    (held_at l.peer t.peers.numbers t.world.fars ∙ stand.opened.going.found)

linked_one : (s t : State) (g : Given) (id : List ℕ) (miu window : ℕ) (es : List Event) (n : ℕ) (zs : List Story) → Stand t zs → FrontOf s g (Link id miu window) es (Some (answers.Linked n)) t
    → AnswerLaw s g (Link id miu window) es (answers.Linked n) → OneBegins (story_if n (own_general miu) t.link t) n (own_general miu)
linked_one s t g id miu window es n zs stand front law =
    begun_one t zs n (own_general miu) t.link stand.stand (subst (λ x. IsSome x) (sym (ap (λ (x : State). x.link) front.after)) (law.opens n refl))

-- So each story's opener is that of its entry, and the numbers of those that `link` opened are those that are told.
abbrev opener_in : Story → List Opener
opener_in y = y.opener ∷ []

abbrev linked_in : Story → List ℕ
linked_in y = by_link y.opener y.number

abbrev opener_told : Command → List Event → Answer → List Opener
opener_told c es a = opener_of (beginning c es (Some a))

-- Where a link of payloads that were written by hand begins one story does.
forge_all : {X : Type 0} (M : Story → List X) (s t : State) (x : Stretch) (id : List ℕ) (payloads : List (List ℕ)) (v : Bool) → ForgeLeaves v s x.joins id payloads x.events → (xs : List X)
    → ((n peer : ℕ) (end : FarEnd) → M (goes_on s x t (new_story n ByForge peer forged_general end)) ≡ xs)
    → all_of M (begun_by (if v then BeginsAndEnds ByForge id forged_general else NothingBegins) (goes_on s x t) s t) ≡ (if v then xs else [])
forge_all M s t x id payloads false stays xs same = refl
forge_all M s t x id payloads true sends xs same =
    let n : ℕ = length s.peers.links + 1 in
    ap (λ o. all_of M (story_within ByForge forged_general o (goes_on s x t) s)) sends.placed
    ∙ ap (λ o. all_of M (whole_of ByForge forged_general n sends.peer o (goes_on s x t))) sends.came.stood
    ∙ ap (λ zs. zs ++ []) (same n sends.peer (restarted serving sends.came.old forged_general)) ∙ append-nil xs

forge_opener : (v : Bool) (id : List ℕ) → (if v then ByForge ∷ [] else []) ≡ opener_of (if v then BeginsAndEnds ByForge id forged_general else NothingBegins)
forge_opener true id = refl
forge_opener false id = refl

forge_number : (v : Bool) → (let none : List ℕ = [] in (if v then none else none) ≡ none)
forge_number true = refl
forge_number false = refl

-- Where a link of frames of a script's own begins one story does.
raw_one : {X : Type 0} (M : Story → List X) (s t : State) (x : Stretch) (n peer : ℕ) (o : Option FarEnd) (k : Held) → held o ≡ Some k → (xs : List X)
    → ((n peer : ℕ) (end : FarEnd) → M (goes_on s x t (new_story n ByRaw peer forged_general end)) ≡ xs)
    → all_of M (whole_of ByRaw forged_general n peer o (goes_on s x t)) ≡ xs
raw_one M s t x n peer None k is xs same = absurd cc
raw_one M s t x n peer (Some old) k is xs same = ap (λ zs. zs ++ []) (same n peer (restarted serving old forged_general)) ∙ append-nil xs

raw_all : {X : Type 0} (M : Story → List X) (s t : State) (ys : List Story) → Stand s ys → (x : Stretch) (id : DeviceId) (v : Bool) → (v ≡ true → IsPeerPlaced s id) → (xs : List X)
    → ((n peer : ℕ) (end : FarEnd) → M (goes_on s x t (new_story n ByRaw peer forged_general end)) ≡ xs)
    → all_of M (begun_by (if v then BeginsAndEnds ByRaw (bytes_of id) forged_general else NothingBegins) (goes_on s x t) s t) ≡ (if v then xs else [])
raw_all M s t ys stand x id false peer xs same = refl
raw_all M s t ys stand x id true peer xs same =
    let ds : List Device = s.world.field.listeners in
    let number = number_under (bytes_of id) ds s.peers.numbers stand.places.numbers (peer refl) in
    let both = base_held (view_of s) s.link ys stand.stand in
    let there = at_own_place number.0 (next_number s.peers) (bytes_of id) ds s.peers.numbers (map held s.world.fars) both.0 both.1 number.1 in
    ap (λ o. all_of M (story_within ByRaw forged_general o (goes_on s x t) s)) number.1
    ∙ raw_one M s t x (length s.peers.links + 1) number.0 (end_numbered number.0 s.peers.numbers s.world.fars) there.0 (held_at number.0 s.peers.numbers s.world.fars ∙ there.1) xs same

raw_opener : (v : Bool) (id : DeviceId) → (if v then ByRaw ∷ [] else []) ≡ opener_of (if v then BeginsAndEnds ByRaw (bytes_of id) forged_general else NothingBegins)
raw_opener true id = refl
raw_opener false id = refl

begun_openers : (s t : State) (g : Given) (c : Command) (es : List Event) (a : Answer) (ys zs : List Story) → Stand s ys → Stand t zs → FrontOf s g c es (Some a) t → AnswerLaw s g c es a
    → all_of opener_in (begun_by (beginning c es (Some a)) (goes_on s (record { command = c; joins = g.joins; events = es; told = Some a }) t) s t) ≡ opener_told c es a
begun_openers s t g (Link id miu window) es (answers.Linked n) ys zs before stand front law = ap (all_of opener_in) (linked_one s t g id miu window es n zs stand front law).2
begun_openers s t g (Forge id payloads) es a ys zs before stand front law =
    forge_all opener_in s t (record { command = Forge id payloads; joins = g.joins; events = es; told = Some a }) id payloads (opens_link id payloads es) law.leaves (ByForge ∷ []) (λ n peer end. refl)
    ∙ forge_opener (opens_link id payloads es) id
begun_openers s t g (Raw id frames) es a ys zs before stand front law =
    raw_all opener_in s t ys before (record { command = Raw id frames; joins = g.joins; events = es; told = Some a }) id (raw_opens id frames es) law.opens (ByRaw ∷ []) (λ n peer end. refl)
    ∙ raw_opener (raw_opens id frames es) id
begun_openers s t g c es a ys zs before stand front law = refl

begun_numbers : (s t : State) (g : Given) (c : Command) (es : List Event) (a : Answer) (ys zs : List Story) → Stand s ys → Stand t zs → FrontOf s g c es (Some a) t → AnswerLaw s g c es a
    → all_of linked_in (begun_by (beginning c es (Some a)) (goes_on s (record { command = c; joins = g.joins; events = es; told = Some a }) t) s t) ≡ told_link c a
begun_numbers s t g (Link id miu window) es (answers.Linked n) ys zs before stand front law = ap (all_of linked_in) (linked_one s t g id miu window es n zs stand front law).2
begun_numbers s t g (Forge id payloads) es a ys zs before stand front law =
    forge_all linked_in s t (record { command = Forge id payloads; joins = g.joins; events = es; told = Some a }) id payloads (opens_link id payloads es) law.leaves [] (λ n peer end. refl)
    ∙ forge_number (opens_link id payloads es)
begun_numbers s t g (Raw id frames) es a ys zs before stand front law =
    raw_all linked_in s t ys before (record { command = Raw id frames; joins = g.joins; events = es; told = Some a }) id (raw_opens id frames es) law.opens [] (λ n peer end. refl)
    ∙ forge_number (raw_opens id frames es)
begun_numbers s t g c es a ys zs before stand front law = refl

openers_are : (ys : List Story) → all_of opener_in ys ≡ map (λ (y : Story). y.opener) ys
openers_are [] = refl
openers_are (y ∷ ys) = ap (λ zs. y.opener ∷ zs) (openers_are ys)

numbers_are : (ys : List Story) → all_of linked_in ys ≡ numbers_by_link ys
numbers_are [] = refl
numbers_are (y ∷ ys) = ap (λ zs. by_link y.opener y.number ++ zs) (numbers_are ys)

openers_told : (es : List Entry) → of_entries opener_told es ≡ openers_in es
openers_told [] = refl
openers_told (e ∷ es) = ap (λ zs. opener_of (beginning e.command e.events (Some e.answer)) ++ zs) (openers_told es)

numbers_told : (es : List Entry) → of_entries (λ c events a. told_link c a) es ≡ told_links es
numbers_told [] = refl
numbers_told (e ∷ es) = ap (λ zs. told_link e.command e.answer ++ zs) (numbers_told es)

pub all_openers : (s t : State) (gs : List Given) (es : List Entry) → Stand s [] → EachLegal s gs es t
    → map (λ (y : Story). y.opener) (stories_from s [] (map (λ (g : Given). g.joins) gs) es) ≡ openers_in es
all_openers s t gs es stand legal =
    sym (openers_are (stories_from s [] (map (λ (g : Given). g.joins) gs) es))
    ∙ all_along opener_in opener_told (λ s t x y. refl) begun_openers s t gs es [] stand legal ∙ openers_told es

pub all_numbers : (s t : State) (gs : List Given) (es : List Entry) → Stand s [] → EachLegal s gs es t
    → numbers_by_link (stories_from s [] (map (λ (g : Given). g.joins) gs) es) ≡ told_links es
all_numbers s t gs es stand legal =
    sym (numbers_are (stories_from s [] (map (λ (g : Given). g.joins) gs) es))
    ∙ all_along linked_in (λ c events a. told_link c a) (λ s t x y. refl) begun_numbers s t gs es [] stand legal ∙ numbers_told es

-- Each story keeps the law, and they are counted.
pub first_stand : Stand first_state []
first_stand = record { places = record { fars = refl; numbers = tt }; stand = record { done = []; base = record { held = tt; apart = tt; each = tt; counted = tt }; links = refl; told = refl } }

pub all_keep : (v : View) (o : Option OpenLink) (ys : List Story) → StandBy v o ys → AllByRecursion KeepsLinkLaw ys × AreCounted 1 ys
all_keep v None ys stand = (closed_keep v ys stand, stand.base.counted)
all_keep v (Some l) ys stand = (open_keep v l.peer ys stand, stand.opened.base.counted)
