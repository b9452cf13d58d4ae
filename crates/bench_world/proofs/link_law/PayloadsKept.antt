-- What each legal entry does to the stories of links, by what arrives.
use Rattle.std.proofs.Common.{◌≡◌, ℕ, ◌+◌, List, [], ◌∷◌, ◌++◌, length, map, Bool, true, false, if◌then◌else◌, Option, Some, None, append-nil, refl, sym, ◌∙◌, ap, subst}
use Rattle.std.specs.Cmp.Lexicographic.{pointwise}
use Rattle.std.specs.List.{AllByRecursion}
use Rattle.std.specs.Prelude.{nat_eq, option_map}
use Rattle.nfc_base.specs.declared.event.Event.{Event}
use Rattle.nfc_base.specs.declared.event.Event.TheVariants.{Reset, Request, Answer as Answers, Clash}
use Rattle.air_core.specs.Conversation.{AreTurns, EachDue, Note, Over}
use Rattle.far_air.specs.FarEnds.{first_far, later_fars}
use Rattle.snep_core.specs.Server.{offered}
use Rattle.snep_core.specs.Talk.{Ends as Finishes, GivesUp, Goes, client_sap, sap_of_slot}
use Rattle.link_calls.specs.CallDue.{CallStanding, Carries, Comes, BrokenBy, Strays}
use Rattle.bench_script.specs.declared.command.Command.{Command}
use Rattle.bench_script.specs.declared.command.Command.TheVariants as commands
use Rattle.bench_script.specs.declared.command.Command.TheVariants.{Skip, Fates, PlaceT2, PlaceT3, PlaceT4, PlaceT5, PlacePeer, Lock, Busy, Offer, Remove, Dump, Inbox, Find, Crowd, Poll3, Read, Read3}
use Rattle.bench_script.specs.declared.command.Command.TheVariants.{Write, Write3, Link, Forge, Raw, Put, Get, Lookup, OnPut, OnGet, Unlink}
use Rattle.bench_script.specs.declared.command.DeviceId.{DeviceId}
use Rattle.bench_script.specs.declared.command.DeviceId.TheVariants.{A}
use Rattle.bench_script.specs.DeviceIds.{bytes_of}
use Rattle.bench_script.specs.Messages.{message_of}
use Rattle.bench_devices.specs.declared.device.Device.{Device}
use Rattle.bench_devices.specs.Device.{device_id}
use Rattle.bench_devices.specs.Placed.{device_with}
use Rattle.bench_world.specs.declared.entry.Answer.{Answer}
use Rattle.bench_world.specs.declared.entry.Answer.TheVariants as answers
use Rattle.bench_world.specs.declared.entry.Entry.{Entry}
use Rattle.bench_world.specs.World.{FarEnd, bench_air}
use Rattle.bench_world.specs.Arriving.{ArrivesAt}
use Rattle.bench_world.specs.ByPayloads.{IsByPayloads, IfPayloads}
use Rattle.link_calls.specs.Asking.{Call, LinkAsking, Does, Closes, Finding, Getting, put_from, Putting}
use Rattle.bench_world.specs.Asked.{asked_on_link, slot_messages}
use Rattle.bench_world.specs.Calls.{IfLinked, asked_behind, call_behind, link_behind, slots_behind, stands_on}
use Rattle.bench_world.specs.Legal.{State, Given, AnswerBy, AnswerLaw, CallLaw, EachLegal, ForgeLeaves, LinkingLaw, world_at_start, changed, due, is_linked_to, link_after, link_left, peers_left}
use Rattle.bench_world.specs.Legal.{state_after, unlinked, world_after}
use Rattle.bench_world.specs.Linking.{link_if, own_general}
use Rattle.bench_world.specs.Links.{OpenLink, begun_if, end_numbered, ended_unless, is_number, is_with}
use Rattle.bench_world.specs.Rawing.{raw_opens}
use Rattle.bench_world.specs.Peers.{Peers, end_offered, new_end, next_number, placed_under, with_place_changed, without_place}
use Rattle.bench_world.specs.Stories.{ByForge, ByRaw, Story, Stretch, Beginning, BeginsAndEnds, NothingBegins, beginning, begun_by, open_goes_on, stretch_of}
use Rattle.bench_world.proofs.link_law.PayloadsOn.{IsOffered, Kept, begun_kept, came_kept, none_kept, stays_kept}
use Rattle.bench_world.specs.Forging.{forged_general, opens_link}
use Rattle.bench_world.proofs.forged.ForgeLeft.{forged_numbers}
use Rattle.bench_world.proofs.link_law.PayloadsWithin.{begun_payloads, over_kept, raw_within}
use Rattle.bench_world.proofs.devices.HeldOn.{nothing_sent}
use Rattle.bench_world.proofs.open_link.OnLink.{none_numbered}
use Rattle.bench_world.proofs.open_link.Unlinking.{same_numbers}
use Rattle.bench_world.proofs.link_law.Tales.{goes_on, stories_behind, stories_from}
use Rattle.bench_world.proofs.tags.Fronts.{Ends}

-- The end of the peer with a number, once one device more is placed; another one is taken away; or a value is offered.
nowhere : (n : ℕ) (ps : List (Option ℕ)) (x : FarEnd) → end_numbered n ps [] ≡ Some x → ⊥
nowhere n ps x e = (let clash : None ≡ Some x = sym (none_numbered n ps) ∙ e in cc)

end_more : (n : ℕ) (ps : List (Option ℕ)) (os : Ends) (x : FarEnd) (p : Option ℕ) (o : Option FarEnd) → end_numbered n ps os ≡ Some x → end_numbered n (ps ++ p ∷ []) (os ++ o ∷ []) ≡ Some x
end_more n [] os x p o e = absurd cc
end_more n (q ∷ ps) [] x p o e = absurd (nowhere n (q ∷ ps) x e)
end_more n (q ∷ ps) (y ∷ os) x p o e = by (is_number n q) e (end_more n ps os x p o)
  where
    by : (v : Bool) → (if v then y else end_numbered n ps os) ≡ Some x → (end_numbered n ps os ≡ Some x → end_numbered n (ps ++ p ∷ []) (os ++ o ∷ []) ≡ Some x)
        → (if v then y else end_numbered n (ps ++ p ∷ []) (os ++ o ∷ [])) ≡ Some x
    by true e rest = e
    by false e rest = rest e

end_less : (n : ℕ) (id : List ℕ) (ds : List Device) (ps : List (Option ℕ)) (os : Ends) (x : FarEnd) → is_number n (placed_under id ds ps) ≡ false → end_numbered n ps os ≡ Some x
    → end_numbered n (without_place id ds ps) (without_place id ds os) ≡ Some x
end_less n id [] ps os x other e = e
end_less n id (d ∷ ds) [] os x other e = absurd cc
end_less n id (d ∷ ds) (q ∷ ps) os x other e = by (pointwise nat_eq (device_id d) id) other (end_less n id ds ps (later_fars os) x)
  where
    there : (v : Bool) → is_number n q ≡ v → (if v then first_far os else end_numbered n ps (later_fars os)) ≡ Some x
        → (end_numbered n ps (later_fars os) ≡ Some x → end_numbered n (without_place id ds ps) (without_place id ds (later_fars os)) ≡ Some x)
        → (if is_number n q then first_far os else end_numbered n (without_place id ds ps) (without_place id ds (later_fars os))) ≡ Some x
    there true named e rest = ap (λ v. if v then first_far os else end_numbered n (without_place id ds ps) (without_place id ds (later_fars os))) named ∙ e
    there false named e rest = ap (λ v. if v then first_far os else end_numbered n (without_place id ds ps) (without_place id ds (later_fars os))) named ∙ rest e

    named_as : (v : Bool) → is_number n q ≡ v → (if v then first_far os else end_numbered n ps (later_fars os)) ≡ Some x
    named_as v named = sym (ap (λ w. if w then first_far os else end_numbered n ps (later_fars os)) named) ∙ e

    by : (v : Bool) → is_number n (if v then q else placed_under id ds ps) ≡ false
        → (is_number n (placed_under id ds ps) ≡ false → end_numbered n ps (later_fars os) ≡ Some x → end_numbered n (without_place id ds ps) (without_place id ds (later_fars os)) ≡ Some x)
        → end_numbered n (if v then ps else q ∷ without_place id ds ps) (if v then later_fars os else first_far os ∷ without_place id ds (later_fars os)) ≡ Some x
    by true other rest = named_as false other
    by false other rest = there (is_number n q) refl (named_as (is_number n q) refl) (rest other)

same_end : (x : FarEnd) (o : Option FarEnd) → o ≡ Some x → IsOffered x o
same_end x o e = (x.service.table, e)

end_offered_at : (key value : List ℕ) (n : ℕ) (id : List ℕ) (ds : List Device) (ps : List (Option ℕ)) (os : Ends) (x : FarEnd) → end_numbered n ps os ≡ Some x
    → IsOffered x (end_numbered n ps (with_place_changed (end_offered key value) id ds os))
end_offered_at key value n id [] ps os x e = same_end x (end_numbered n ps os) e
end_offered_at key value n id (d ∷ ds) [] os x e = absurd cc
end_offered_at key value n id (d ∷ ds) (q ∷ ps) os x e = by (pointwise nat_eq (device_id d) id) (is_number n q) e (end_offered_at key value n id ds ps (later_fars os) x)
  where
    changed_one : (o : Option FarEnd) → o ≡ Some x → IsOffered x (option_map (end_offered key value) o)
    changed_one None e = absurd cc
    changed_one (Some y) e = let same : y ≡ x = cc in subst (λ z. IsOffered x (Some (end_offered key value z))) (sym same) (offered x.service.table key value, refl)

    by : (v w : Bool) → (if w then first_far os else end_numbered n ps (later_fars os)) ≡ Some x
        → (end_numbered n ps (later_fars os) ≡ Some x → IsOffered x (end_numbered n ps (with_place_changed (end_offered key value) id ds (later_fars os))))
        → IsOffered x (if w then first_far (if v then option_map (end_offered key value) (first_far os) ∷ later_fars os
        else first_far os ∷ with_place_changed (end_offered key value) id ds (later_fars os))
        else end_numbered n ps (later_fars (if v then option_map (end_offered key value) (first_far os) ∷ later_fars os
        else first_far os ∷ with_place_changed (end_offered key value) id ds (later_fars os))))
    by true true e rest = changed_one (first_far os) e
    by true false e rest = same_end x (end_numbered n ps (later_fars os)) e
    by false true e rest = same_end x (first_far os) e
    by false false e rest = rest e

-- the link behind a call is to the same peer
behind_peer : (l : OpenLink) (call : Call) (c : CallStanding) (k : OpenLink) → link_behind l call c ≡ Some k → k.peer ≡ l.peer
behind_peer l call (Comes (Finishes jobs client) i) k e = (let same : record { peer = l.peer; initiator = i; client = client; slots = slots_behind call jobs l.slots } ≡ k = cc in
    sym (ap (λ (o : OpenLink). o.peer) same))
behind_peer l call (Comes (GivesUp client) i) k e = absurd cc
behind_peer l call (Comes (Goes w) i) k e = absurd cc
behind_peer l call (Carries (w, ns) s) k e = absurd cc
behind_peer l call (BrokenBy c) k e = absurd cc
behind_peer l call Strays k e = absurd cc

-- a link that was just opened counts from 0
opened_first : (p : Option ℕ) (d : Option Device) (miu window : ℕ) (l : OpenLink) → link_if p d miu window ≡ Some l → l.initiator.core.number ≡ 0
opened_first (Some p) (Some d) miu window l e = (let same = option_same _ l e in sym (ap (λ (o : OpenLink). o.initiator.core.number) same))
  where
    option_same : (a b : OpenLink) → ◌≡◌ {A = Option OpenLink} (Some a) (Some b) → a ≡ b
    option_same a b e = cc
opened_first (Some p) None miu window l e = absurd cc
opened_first None d miu window l e = absurd cc

pub unless_numbers : (o b : Option OpenLink) (fars : Ends) (p : Peers) → (ended_unless o b fars p).numbers ≡ p.numbers
unless_numbers None b fars p = same_numbers b p fars
unless_numbers (Some l) b fars p = refl

begun_numbers : (o : Option OpenLink) (fars : Ends) (p : Peers) → (begun_if o fars p).numbers ≡ p.numbers
begun_numbers None fars p = refl
begun_numbers (Some l) fars p = refl

abbrev pub KeptIn : State → List Story → Type 0
KeptIn s ys = Kept s.link s ys

module _ (s : State) (g : Given) (ys : List Story) (h : KeptIn s ys) where
  abbrev behind : Command → List Event → Answer → State
  behind c es answer = state_after s g.joins c es (Some answer)

  abbrev stretch : Command → List Event → Answer → Stretch
  stretch c es answer = record { command = c; joins = g.joins; events = es; told = Some answer }

  abbrev Goal : Command → List Event → Answer → Type 0
  Goal c es answer = KeptIn (behind c es answer) (stories_behind s (stretch c es answer) (behind c es answer) ys)

  -- none begins
  abbrev GoesOn : Option OpenLink → Command → List Event → Answer → Type 0
  GoesOn o c es answer = KeptIn (behind c es answer) (open_goes_on o (goes_on s (stretch c es answer) (behind c es answer)) ys)

  plain : (c : Command) (es : List Event) (answer : Answer) → beginning c es (Some answer) ≡ NothingBegins → GoesOn (changed s c).link c es answer → Goal c es answer
  plain c es answer none kept =
      let t : State = behind c es answer in
      let zs : List Story = open_goes_on (changed s c).link (goes_on s (stretch c es answer) t) ys in
      subst (KeptIn t) (sym (ap (λ (b : Beginning). zs ++ begun_by b (goes_on s (stretch c es answer) t) s t) none ∙ append-nil zs)) kept

  -- where nothing is due nothing was sent
  quiet : (c : Command) (es : List Event) (answer : Answer) → ((ns : List Note) → due s g c ns ≡ Over) → AreTurns bench_air (world_at_start s g.joins c) es → EachDue (due s g c) [] es
      → beginning c [] (Some answer) ≡ NothingBegins → GoesOn (changed s c).link c [] answer → Goal c es answer
  quiet c es answer over turns each none goal =
      subst (λ xs. Goal c xs answer) (sym (nothing_sent (world_at_start s g.joins c) es turns (over_all es [] each))) (plain c [] answer none goal)
    where
      over_all : (es before : List Event) → EachDue (due s g c) before es → EachDue (λ ns. Over) before es
      over_all [] before q = tt
      over_all (Reset ∷ es) before q = (sym (over _) ∙ q.0, over_all es (before ++ Reset ∷ []) q.1)
      over_all (Request f x ∷ es) before q = (sym (over _) ∙ q.0, over_all es (before ++ Request f x ∷ []) q.1)
      over_all (Answers f x ∷ es) before q = over_all es (before ++ Answers f x ∷ []) q
      over_all (Clash f x ∷ es) before q = over_all es (before ++ Clash f x ∷ []) q

  -- the same ends at the same numbers
  abbrev ps : List (Option ℕ)
  ps = s.peers.numbers

  abbrev os : Ends
  os = s.world.fars

  stays : (c : Command) (answer : Answer) (o : Option OpenLink) → Kept o s ys
      → ((l : OpenLink) → o ≡ Some l → (x : FarEnd) → end_numbered l.peer ps os ≡ Some x → IsOffered x (end_numbered l.peer (behind c [] answer).peers.numbers (behind c [] answer).world.fars))
      → Kept o (behind c [] answer) (open_goes_on o (goes_on s (stretch c [] answer) (behind c [] answer)) ys)
  stays c answer o kept same = stays_kept o s (behind c [] answer) c g.joins (Some answer) ys kept same

  same_kept : (c : Command) (answer : Answer) → (behind c [] answer).peers.numbers ≡ ps → (behind c [] answer).world.fars ≡ os → (behind c [] answer).link ≡ s.link → GoesOn s.link c [] answer
  same_kept c answer numbers fars link =
      let t : State = behind c [] answer in
      subst (λ o. Kept o t (open_goes_on s.link (goes_on s (stretch c [] answer) t) ys)) (sym link)
      (stays c answer s.link h (λ l at x e. same_end x (end_numbered l.peer t.peers.numbers t.world.fars)
      (ap (λ qs. end_numbered l.peer qs t.world.fars) numbers ∙ ap (end_numbered l.peer ps) fars ∙ e)))

  placed_kept : (c : Command) (answer : Answer) (p : Option ℕ) (o : Option FarEnd) → (behind c [] answer).peers.numbers ≡ ps ++ p ∷ [] → (behind c [] answer).world.fars ≡ os ++ o ∷ []
      → (behind c [] answer).link ≡ s.link → GoesOn s.link c [] answer
  placed_kept c answer p o numbers fars link =
      let t : State = behind c [] answer in
      subst (λ k. Kept k t (open_goes_on s.link (goes_on s (stretch c [] answer) t) ys)) (sym link)
      (stays c answer s.link h (λ l at x e. same_end x (end_numbered l.peer t.peers.numbers t.world.fars)
      (ap (λ qs. end_numbered l.peer qs t.world.fars) numbers ∙ ap (end_numbered l.peer (ps ++ p ∷ [])) fars ∙ end_more l.peer ps os x p o e)))

  offered_kept : (id : DeviceId) (key value : List ℕ) (answer : Answer) → GoesOn s.link (Offer id key value) [] answer
  offered_kept id key value answer =
      stays (Offer id key value) answer s.link h (λ l at x e. end_offered_at key value l.peer (bytes_of id) s.world.field.listeners ps os x e)

  -- A device is taken away, and the link to it ends first.
  module _ (id : DeviceId) (answer : Answer) where
    abbrev ds : List Device
    ds = s.world.field.listeners

    abbrev gone : State
    gone = behind (Remove id) [] answer

    abbrev link_by : Bool → Option OpenLink
    link_by v = if v then None else s.link

    abbrev numbers_by : Bool → List (Option ℕ)
    numbers_by v = without_place (bytes_of id) ds (if v then (unlinked s).peers else s.peers).numbers

    other : (o : Option OpenLink) (l : OpenLink) → o ≡ Some l → is_with o (placed_under (bytes_of id) ds ps) ≡ false → is_number l.peer (placed_under (bytes_of id) ds ps) ≡ false
    other o l at apart = sym (ap (λ q. is_with q (placed_under (bytes_of id) ds ps)) at) ∙ apart

    by_link : (v : Bool) → is_linked_to s id ≡ v → Kept (link_by v) gone (open_goes_on (link_by v) (goes_on s (stretch (Remove id) [] answer) gone) ys)
    by_link true e = none_kept s.link s gone ys h
    by_link false e =
        stays (Remove id) answer s.link h
        (λ l at x found. same_end x (end_numbered l.peer gone.peers.numbers gone.world.fars)
        (ap (λ v. end_numbered l.peer (numbers_by v) gone.world.fars) e ∙ end_less l.peer (bytes_of id) ds ps os x (other s.link l at e) found))

    removed_kept : GoesOn (changed s (Remove id)).link (Remove id) [] answer
    removed_kept = by_link (is_linked_to s id) refl

  -- a command on the link
  abbrev ArrivesSo : OpenLink → List ℕ → Ends → List Event → Option OpenLink → Type 0
  ArrivesSo l counts us es now = ArrivesAt l ps counts os us es now

  called_kept : (o : Option OpenLink) → s.link ≡ o → (now : Option OpenLink) (x : Stretch) (t : State) → t.peers.numbers ≡ ps
      → (o ≡ None → now ≡ None) → ((l : OpenLink) → o ≡ Some l → ArrivesSo l x.joins.far t.world.fars x.events now) → ((l k : OpenLink) → o ≡ Some l → now ≡ Some k → k.peer ≡ l.peer)
      → Kept now t (open_goes_on s.link (goes_on s x t) ys)
  called_kept o at now x t numbers none came peer =
      subst (λ k. Kept now t (open_goes_on k (goes_on s x t) ys)) (sym at) (by o (subst (λ k. Kept k s ys) at h) none came peer)
    where
      by : (o : Option OpenLink) → Kept o s ys → (o ≡ None → now ≡ None) → ((l : OpenLink) → o ≡ Some l → ArrivesSo l x.joins.far t.world.fars x.events now)
          → ((l k : OpenLink) → o ≡ Some l → now ≡ Some k → k.peer ≡ l.peer) → Kept now t (open_goes_on o (goes_on s x t) ys)
      by None k none came peer = subst (λ x. Kept x t ys) (sym (none refl)) (none_kept None s t ys k)
      by (Some l) k none came peer = came_kept l s t x ys now k numbers (came l refl) (λ m is. peer l m refl is)

  on_it : (P : OpenLink → Type 0) (R : Type 0) (l : OpenLink) → s.link ≡ Some l → IfLinked s.link P R → P l
  on_it P R l at law = subst (λ o. IfLinked o P R) at law

  -- by a call, whose link is that behind it
  call_kept : (call : Call) (c : Command) (es : List Event) (answer : Answer) (stands : OpenLink → CallStanding) → (behind c es answer).peers.numbers ≡ ps
      → (behind c es answer).link ≡ call_behind (Some answer) s.link call stands
      → ((l : OpenLink) → s.link ≡ Some l → ArrivesSo l g.joins.far (behind c es answer).world.fars es (call_behind (Some answer) s.link call stands)) → GoesOn s.link c es answer
  call_kept call c es answer stands numbers link came =
      let t : State = behind c es answer in
      let x : Stretch = stretch c es answer in
      subst (λ o. Kept o t (open_goes_on s.link (goes_on s x t) ys)) (sym link)
      (called_kept s.link refl (call_behind (Some answer) s.link call stands) x t numbers (λ at. ap (λ o. call_behind (Some answer) o call stands) at) came
      (λ l k at is. behind_peer l call (stands l) k (sym (ap (λ o. call_behind (Some answer) o call stands) at) ∙ is)))

  -- so by whatever is asked
  asked_kept : (asked : LinkAsking) (c : Command) (es : List Event) (answer : Answer) → (behind c es answer).peers.numbers ≡ ps
      → (behind c es answer).link ≡ asked_behind asked (Some answer) s.link g.joins.own es
      → ((l : OpenLink) → s.link ≡ Some l → ArrivesSo l g.joins.far (behind c es answer).world.fars es (behind c es answer).link) → GoesOn s.link c es answer
  asked_kept (Does call) c es answer numbers link came =
      call_kept call c es answer (λ l. stands_on l g.joins.own call es) numbers link (λ l at. subst (ArrivesSo l g.joins.far (behind c es answer).world.fars es) link (came l at))
  asked_kept Closes c es answer numbers link came =
      let t : State = behind c es answer in
      subst (λ o. Kept o t (open_goes_on s.link (goes_on s (stretch c es answer) t) ys)) (sym link)
      (called_kept s.link refl None (stretch c es answer) t numbers (λ at. refl) (λ l at. subst (ArrivesSo l g.joins.far t.world.fars es) link (came l at)) (λ l k at is. absurd cc))

  -- a command that asks this
  talk_kept : (asked : LinkAsking) (c : Command) (es : List Event) (answer : Answer) → asked_on_link c ≡ Some asked → AnswerBy (Some asked) s g c es answer → GoesOn s.link c es answer
  talk_kept asked c es answer asks law =
      let peers : (behind c es answer).peers ≡ ended_unless (link_after s g.joins c es (Some answer)) s.link (world_after s g.joins c es).fars s.peers =
      ap (λ o. peers_left o s g.joins c es (Some answer)) asks in
      asked_kept asked c es answer
      (ap (λ (z : Peers). z.numbers) peers ∙ unless_numbers (link_after s g.joins c es (Some answer)) s.link (world_after s g.joins c es).fars s.peers)
      (ap (λ o. link_left o s g.joins c es (Some answer)) asks) (λ l at. (on_it (λ k. CallLaw s g.joins k asked c es answer) (answer ≡ answers.NoLink) l at law).came)

  -- one is opened, or none
  link_kept : (id : List ℕ) (miu rw : ℕ) (es : List Event) (answer : Answer) → LinkingLaw s g.joins id miu rw es answer → Goal (Link id miu rw) es answer
  link_kept id miu rw es (answers.Linked n) law =
      let c : Command = Link id miu rw in
      let t : State = behind c es (answers.Linked n) in
      let numbers : t.peers.numbers ≡ ps = begun_numbers t.link (unlinked s).world.fars (unlinked s).peers ∙ same_numbers s.link s.peers os in
      begun_kept t.link s t n (own_general miu) ys h.all numbers law.begins
      (λ l is. opened_first (placed_under id s.world.field.listeners ps) (device_with id s.world.field.listeners) miu rw l is)
  link_kept id miu rw es answer law = plain (Link id miu rw) es answer refl (none_kept s.link s (behind (Link id miu rw) es answer) ys h)

  none_open : (c : Command) (es : List Event) (answer : Answer) → (changed s c).link ≡ None → (behind c es answer).link ≡ None → beginning c es (Some answer) ≡ NothingBegins → Goal c es answer
  none_open c es answer ended gone none =
      let t : State = behind c es answer in
      plain c es answer none (subst (λ o. Kept o t (open_goes_on (changed s c).link (goes_on s (stretch c es answer) t) ys)) (sym gone)
      (subst (λ o. Kept None t (open_goes_on o (goes_on s (stretch c es answer) t) ys)) (sym ended) (none_kept s.link s t ys h)))

  step_kept : (c : Command) (es : List Event) (answer : Answer) → AreTurns bench_air (world_at_start s g.joins c) es → EachDue (due s g c) [] es → AnswerLaw s g c es answer → Goal c es answer
  step_kept Skip es answer turns each law = absurd law
  step_kept (Fates fates) es answer turns each law = quiet (Fates fates) es answer (λ ns. refl) turns each refl (same_kept (Fates fates) answer refl refl refl)
  step_kept (PlaceT2 id blocks head) es answer turns each law =
      quiet (PlaceT2 id blocks head) es answer (λ ns. refl) turns each refl (placed_kept (PlaceT2 id blocks head) answer None None refl refl refl)
  step_kept (PlaceT3 id blocks head) es answer turns each law =
      quiet (PlaceT3 id blocks head) es answer (λ ns. refl) turns each refl (placed_kept (PlaceT3 id blocks head) answer None None refl refl refl)
  step_kept (PlaceT4 id code container head) es answer turns each law =
      quiet (PlaceT4 id code container head) es answer (λ ns. refl) turns each refl (placed_kept (PlaceT4 id code container head) answer None None refl refl refl)
  step_kept (PlaceT5 id blocks size head) es answer turns each law =
      quiet (PlaceT5 id blocks size head) es answer (λ ns. refl) turns each refl (placed_kept (PlaceT5 id blocks size head) answer None None refl refl refl)
  step_kept (PlacePeer id lr miu rw most) es answer turns each law =
      quiet (PlacePeer id lr miu rw most) es answer (λ ns. refl) turns each refl
      (placed_kept (PlacePeer id lr miu rw most) answer (Some (next_number s.peers)) (Some (new_end miu rw most)) refl refl refl)
  step_kept (Lock id block) es answer turns each law = quiet (Lock id block) es answer (λ ns. refl) turns each refl (same_kept (Lock id block) answer refl refl refl)
  step_kept (Busy id count times) es answer turns each law = quiet (Busy id count times) es answer (λ ns. refl) turns each refl (same_kept (Busy id count times) answer refl refl refl)
  step_kept (Offer id key value) es answer turns each law = quiet (Offer id key value) es answer (λ ns. refl) turns each refl (offered_kept id key value answer)
  step_kept (Remove id) es answer turns each law = quiet (Remove id) es answer (λ ns. refl) turns each refl (removed_kept id answer)
  step_kept (Dump id) es answer turns each law = quiet (Dump id) es answer (λ ns. refl) turns each refl (same_kept (Dump id) answer refl refl refl)
  step_kept (Inbox id) es answer turns each law = quiet (Inbox id) es answer (λ ns. refl) turns each refl (same_kept (Inbox id) answer refl refl refl)
  step_kept Find es answer turns each law = none_open Find es answer refl refl refl
  step_kept Crowd es answer turns each law = none_open Crowd es answer refl refl refl
  step_kept Poll3 es answer turns each law = none_open Poll3 es answer refl refl refl
  step_kept (Read3 id) es answer turns each law = none_open (Read3 id) es answer refl refl refl
  step_kept (Write3 id m) es answer turns each law = none_open (Write3 id m) es answer refl refl refl
  step_kept (Read id) es answer turns each law = none_open (Read id) es answer refl refl refl
  step_kept (Write id m) es answer turns each law = none_open (Write id m) es answer refl refl refl
  step_kept (Link id miu rw) es answer turns each law = link_kept id miu rw es answer law
  step_kept (Forge id payloads) es answer turns each law = by (opens_link id payloads es) refl law.leaves
    where
      by : (v : Bool) → opens_link id payloads es ≡ v → ForgeLeaves v s g.joins id payloads es → Goal (Forge id payloads) es answer
      by true opened sends =
          let c : Command = Forge id payloads in
          let t : State = behind c es answer in
          over_kept s t (stretch c es answer) ys h.all refl refl
          (begun_payloads s t (stretch c es answer) ByForge (length s.peers.links + 1) sends.peer forged_general (forged_numbers (opens_link id payloads es) s (A id) (world_after s g.joins c es).fars)
          id
          (ap (λ v. if v then BeginsAndEnds ByForge id forged_general else NothingBegins) opened) sends.placed refl sends.came)
      by false unopened stays = none_open (Forge id payloads) es answer refl refl (ap (λ v. if v then BeginsAndEnds ByForge id forged_general else NothingBegins) unopened)
  step_kept (Raw id frames) es answer turns each law = by (raw_opens id frames es) refl
    where
      by : (v : Bool) → raw_opens id frames es ≡ v → Goal (Raw id frames) es answer
      by true opened =
          let c : Command = Raw id frames in
          let t : State = behind c es answer in
          over_kept s t (stretch c es answer) ys h.all refl refl
          (subst (λ (b : Beginning). AllByRecursion (IfPayloads IsByPayloads) (begun_by b (goes_on s (stretch c es answer) t) s t))
          (sym (ap (λ v. if v then BeginsAndEnds ByRaw (bytes_of id) forged_general else NothingBegins) opened))
          (raw_within IsByPayloads s t (stretch c es answer) forged_general (placed_under (bytes_of id) s.world.field.listeners s.peers.numbers)))
      by false unopened = none_open (Raw id frames) es answer refl refl (ap (λ v. if v then BeginsAndEnds ByRaw (bytes_of id) forged_general else NothingBegins) unopened)
  step_kept (Put m) es answer turns each law = plain (Put m) es answer refl (talk_kept (Does (put_from 0 (message_of m))) (Put m) es answer refl law)
  step_kept (Get most key) es answer turns each law = plain (Get most key) es answer refl (talk_kept (Does (Getting client_sap most key)) (Get most key) es answer refl law)
  step_kept (Lookup name) es answer turns each law = plain (Lookup name) es answer refl (talk_kept (Does (Finding name)) (Lookup name) es answer refl law)
  step_kept (OnPut slot m) es answer turns each law = plain (OnPut slot m) es answer refl (talk_kept (Does (put_from slot (message_of m))) (OnPut slot m) es answer refl law)
  step_kept (OnGet slot most key) es answer turns each law = plain (OnGet slot most key) es answer refl
      (talk_kept (Does (Getting (sap_of_slot slot) most key)) (OnGet slot most key) es answer refl law)
  step_kept (commands.Puts puts) es answer turns each law = plain (commands.Puts puts) es answer refl (talk_kept (Does (Putting (slot_messages puts))) (commands.Puts puts) es answer refl law)
  step_kept Unlink es answer turns each law = plain Unlink es answer refl (talk_kept Closes Unlink es answer refl law)

-- through some entries
pub kept_along : (s : State) (gs : List Given) (es : List Entry) (t : State) (ys : List Story) → KeptIn s ys → EachLegal s gs es t
    → KeptIn t (stories_from s ys (map (λ (g : Given). g.joins) gs) es)
kept_along s [] [] t ys h legal = subst (λ x. KeptIn x ys) (sym legal) h
kept_along s [] (e ∷ es) t ys h legal = absurd legal
kept_along s (g ∷ gs) [] t ys h legal = absurd legal
kept_along s (g ∷ gs) (e ∷ es) t ys h (mid, step, rest) =
    let now : State = state_after s g.joins e.command e.events (Some e.answer) in
    let one : KeptIn now (stories_behind s (stretch_of g.joins e) now ys) = step_kept s g ys h e.command e.events e.answer step.front.turns step.front.each step.answered in
    kept_along now gs es t (stories_behind s (stretch_of g.joins e) now ys) one (subst (λ x. EachLegal x gs es t) step.front.after rest)

pub steps_kept : (s : State) (gs : List Given) (es : List Entry) (t : State) (ys : List Story) → KeptIn s ys → EachLegal s gs es t
    → AllByRecursion (IfPayloads IsByPayloads) (stories_from s ys (map (λ (g : Given). g.joins) gs) es)
steps_kept s gs es t ys h legal = (kept_along s gs es t ys h legal).all
