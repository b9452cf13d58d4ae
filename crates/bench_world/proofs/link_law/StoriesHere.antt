-- The stories of the links of a state, and what a stretch adds to them where it changes none, and where it puts messages.
use Rattle.std.proofs.Common.{◌≡◌, ℕ, false, List, [], ◌++◌, map, length, drop, Option, Some, None, refl, sym, ◌∙◌, ap, subst}
use Rattle.std.proofs.lemmas.List.{append-nil}
use Rattle.std.proofs.Math.Seq.{drop-length, drop-append_seam}
use Rattle.nfc_base.specs.declared.event.Event.{Event}
use Rattle.snep_core.specs.Links.{LinkAccepts, Told, Put}
use Rattle.snep_core.specs.Payloads.{accepted_from}
use Rattle.snep_core.specs.Server.{Received as Accepted}
use Rattle.link_calls.specs.AtOnce.{AreApart, is_from}
use Rattle.link_calls.specs.declared.request.SlotMessage.{SlotMessage}
use Rattle.bench_world.specs.World.{FarEnd}
use Rattle.bench_world.specs.Arrivals.{Arrival}
use Rattle.bench_world.specs.Calls.{AllAdd, EachAdds, OfEnd}
use Rattle.bench_world.specs.Legal.{State}
use Rattle.bench_world.specs.Links.{OpenLink, accepted_by, end_numbered, accepted_at, ended, with_last_ended}
use Rattle.bench_world.specs.LinkLaw.{AcceptsByOpener, KeepsLinkLaw}
use Rattle.bench_world.specs.Peers.{Peers, next_number}
use Rattle.bench_world.specs.Stories.{Opener, ByLink, ByForge, LinkPut, Story, Stretch, arrived_by, puts_in, puts_told, last_goes_on, open_goes_on, ByRaw}
use Rattle.bench_world.proofs.devices.AtNumbers.{Held, held, held_at}
use Rattle.bench_world.proofs.devices.PeersNumbered.{HavePlaces}
use Rattle.bench_world.proofs.link_law.PutsTold.{AreTold, InStep, all_accept, all_in_step, with_all}
use Rattle.bench_world.proofs.link_law.StoriesStand.{View, at, Closed, Opened, Open, IsInStep, closed_here, view_ended, came, went_on, open_came}
use Rattle.bench_world.proofs.link_law.Tales.{accepted_of, accepted_in, gained_by, goes_on}

abbrev pub view_at : Peers → List (Option FarEnd) → View
view_at p fars = record { numbers = p.numbers; placed = next_number p; links = p.links; held = map held fars }

abbrev pub view_of : State → View
view_of s = view_at s.peers s.world.fars

abbrev pub StandBy : View → Option OpenLink → List Story → Type 0
StandBy v None ys = Closed v ys
StandBy v (Some l) ys = Open v l.peer ys

abbrev pub PlacesOf : State → Type 0
PlacesOf s = HavePlaces s.world.field.listeners s.peers.numbers s.world.fars

-- these are the stories of a state's links
pub record Stand (s : State) (ys : List Story) : Type 0 where
  pub places : PlacesOf s
  pub stand : StandBy (view_of s) s.link ys

-- what a peer accepted
abbrev pub taken_by : Option Held → List Accepted
taken_by None = []
taken_by (Some k) = k.accepted

taken_is : (o : Option FarEnd) → accepted_of o ≡ taken_by (held o)
taken_is None = refl
taken_is (Some l) = refl

accepted_is : (n : ℕ) (s : State) → accepted_in n s ≡ taken_by (at (view_of s) n)
accepted_is n s = taken_is (end_numbered n s.peers.numbers s.world.fars) ∙ ap taken_by (held_at n s.peers.numbers s.world.fars)

no_gain : (n : ℕ) (s t : State) → at (view_of t) n ≡ at (view_of s) n → gained_by n s t ≡ []
no_gain n s t same =
    ap (drop (length (accepted_in n s))) (accepted_is n t ∙ ap taken_by same ∙ sym (accepted_is n s)) ∙ drop-length (accepted_in n s)

pub gain : (n : ℕ) (s t : State) (k h : Held) (more : List Accepted) → at (view_of s) n ≡ Some k → at (view_of t) n ≡ Some h → h.accepted ≡ k.accepted ++ more → gained_by n s t ≡ more
gain n s t k h more before after grown =
    ap (λ xs. drop (length xs) (accepted_in n t)) (accepted_is n s ∙ ap taken_by before)
    ∙ ap (drop (length k.accepted)) (accepted_is n t ∙ ap taken_by after ∙ grown) ∙ drop-append_seam k.accepted more

-- by a stretch that puts nothing, and in which its peer accepted nothing, a story goes on by what happened
pub goes_same : (s t : State) (x : Stretch) (y : Story) → puts_in x.command x.told ≡ [] → gained_by y.peer s t ≡ [] → goes_on s x t y ≡ came x.events (arrived_by s x y) y
goes_same s t x y puts gained =
    let S : List LinkPut → List Accepted → Story = λ ps gs. record y { events = y.events ++ x.events; arrivals = y.arrivals ++ arrived_by s x y; puts = ps; gained = gs } in
    let p : y.puts ++ puts_in x.command x.told ≡ y.puts = ap (λ ps. y.puts ++ ps) puts ∙ append-nil y.puts in
    let g : y.gained ++ gained_by y.peer s t ≡ y.gained = ap (λ gs. y.gained ++ gs) gained ∙ append-nil y.gained in
    ap (λ ps. S ps (y.gained ++ gained_by y.peer s t)) p ∙ ap (S y.puts) g

pub open_stands : (s t : State) (x : Stretch) (ys : List Story) (v : View) (n : ℕ) → Open v n ys → puts_in x.command x.told ≡ [] → at (view_of t) n ≡ at (view_of s) n
    → Open v n (last_goes_on (goes_on s x t) ys)
open_stands s t x ys v n stand puts same =
    let y : Story = stand.opened.now.story in
    let own : gained_by y.peer s t ≡ [] = ap (λ m. gained_by m s t) stand.opened.going.own ∙ no_gain n s t same in
    open_came v n ys stand (goes_on s x t) x.events (arrived_by s x y) (goes_same s t x y puts own)

pub still_stands : (s t : State) (x : Stretch) (ys : List Story) (v : View) (o : Option OpenLink) → StandBy v o ys → puts_in x.command x.told ≡ []
    → ((l : OpenLink) → o ≡ Some l → at (view_of t) l.peer ≡ at (view_of s) l.peer) → StandBy v o (open_goes_on o (goes_on s x t) ys)
still_stands s t x ys v None stand puts same = stand
still_stands s t x ys v (Some l) stand puts same = open_stands s t x ys v l.peer stand puts (same l refl)

-- the open link ends
pub count_is : (o : Option FarEnd) → accepted_by o ≡ length (taken_by (held o))
count_is None = refl
count_is (Some l) = refl

pub count_there : (p : Peers) (fars : List (Option FarEnd)) (n : ℕ) (ys : List Story) (o : Opened (view_at p fars) n ys) → length o.going.there.accepted ≡ accepted_at n p fars
count_there p fars n ys o = sym (count_is (end_numbered n p.numbers fars) ∙ ap (λ k. length (taken_by k)) (held_at n p.numbers fars ∙ o.going.found))

pub over_closed : (p : Peers) (fars : List (Option FarEnd)) (n : ℕ) (ys : List Story) → Opened (view_at p fars) n ys → Closed (view_at (with_last_ended (accepted_at n p fars) p) fars) ys
over_closed p fars n ys o = subst (λ m. Closed (view_ended (view_at p fars) m) ys) (count_there p fars n ys o) (closed_here (view_at p fars) n ys o)

pub ended_closed : (o : Option OpenLink) (p : Peers) (fars : List (Option FarEnd)) (ys : List Story) → StandBy (view_at p fars) o ys → Closed (view_at (ended o fars p) fars) ys
ended_closed None p fars ys stand = stand
ended_closed (Some l) p fars ys stand = over_closed p fars l.peer ys stand.opened

-- What messages that were put at once add, at the end of a link's peer.
pub adds_so : (ws : List SlotMessage) (o : Option FarEnd) (k : Held) (ts : List Told) (more : List Accepted) → held o ≡ Some k → OfEnd (λ end. AllAdd ws end ts more) o
    → EachAdds ws k.limit ts more × ((s : ℕ) → is_from s ws ≡ false → accepted_from s more ≡ [])
adds_so ws None k ts more e h = absurd h
adds_so ws (Some end) k ts more e h =
    let is : record { limit = end.service.limit; accepted = end.service.accepted } ≡ k = cc in
    (subst (λ (x : Held). EachAdds ws x.limit ts more) is h.each, h.others)

-- so a story goes on that was in step
abbrev pub put_to : Story → List Event → List Arrival → List SlotMessage → List Told → List Accepted → Story
put_to y es arrivals ws ts more = went_on es arrivals (puts_told ws ts) more y

module _ (y : Story) (step : IsInStep y) (es : List Event) (arrivals : List Arrival) (ws : List SlotMessage) (apart : AreApart ws) (ts : List Told) (more : List Accepted)
    (adds : EachAdds ws y.begun.service.limit ts more) (others : (s : ℕ) → is_from s ws ≡ false → accepted_from s more ≡ []) where
  abbrev Step : List Put → List (List ℕ) → Type 0
  Step = InStep y.begun.service.limit

  abbrev Now : Story
  Now = put_to y es arrivals ws ts more

  -- it keeps the law
  pub puts_keep : KeepsLinkLaw Now
  puts_keep = by y.opener
    where
      by : (o : Opener) → AcceptsByOpener o Now
      by ByForge = tt
      by ByRaw = tt
      by ByLink = with_all Step (LinkAccepts y.begun.service.limit) y.puts y.gained step (puts_told ws ts) more (all_accept ws apart y.begun.service.limit ts more adds others)

  -- and is in step still, where each was told of
  pub puts_step : AreTold ts → IsInStep Now
  puts_step told = with_all Step Step y.puts y.gained step (puts_told ws ts) more (all_in_step ws apart y.begun.service.limit ts more adds others told)
