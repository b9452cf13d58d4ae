-- A link that begins and ends in one stretch: its story stands beside its range.
use Rattle.std.proofs.Common.{◌≡◌, ℕ, ◌+◌, List, [], ◌∷◌, ◌++◌, map, length, Option, Some, None, refl, sym, ◌∙◌, ap, subst}
use Rattle.llcp_link.specs.State.{restarted}
use Rattle.snep_core.specs.Server.{Received as Accepted, serving}
use Rattle.bench_devices.specs.declared.device.Device.{Device}
use Rattle.bench_world.specs.declared.inbox.LinkRange.{LinkRange}
use Rattle.bench_world.specs.World.{FarEnd}
use Rattle.bench_world.specs.Legal.{State, changed}
use Rattle.bench_world.specs.LinkLaw.{AcceptsByOpener, KeepsLinkLaw}
use Rattle.bench_world.specs.Links.{OpenLink, accepted_at, end_numbered, last_ended, with_link_within}
use Rattle.bench_world.specs.Peers.{Peers, next_number, placed_under}
use Rattle.bench_world.specs.Stories.{Beginning, BeginsAndEnds, Opener, Story, Stretch, arrived_by, begins_in, begun_by, new_story, open_goes_on, puts_in, story_within, whole_of}
use Rattle.bench_world.proofs.devices.AtNumbers.{Held, adding, at_number, at_own, at_own_place, held, held_at, with_held}
use Rattle.bench_world.proofs.devices.PeersNumbered.{HavePlaces}
use Rattle.bench_world.proofs.link_law.SameStories.{last_equal}
use Rattle.bench_world.proofs.link_law.StoriesHere.{Stand, StandBy, count_is, gain, taken_by, view_at, view_of}
use Rattle.bench_world.proofs.link_law.StoriesStand.{Closed, Covered, Open, Opened, View, at, closed_here, covered_linked, covered_more, covered_over, last_range, last_story, open_here, opened_more}
use Rattle.bench_world.proofs.link_law.StoriesStand.{stories, view_begun, view_ended, view_more, went_on}
use Rattle.bench_world.proofs.link_law.Tales.{gained_by, goes_on, stories_behind}

-- The end that stands at a number, and what it held.
end_held : (o : Option FarEnd) (k : Held) → held o ≡ Some k → (end : FarEnd) × (o ≡ Some end) × (record { limit = end.service.limit; accepted = end.service.accepted } ≡ k)
end_held None k is = absurd cc
end_held (Some end) k is = (end, refl, cc)

-- From a state in which no link is open but for one that ends first, to one in which none is: a link began and ended, to
-- the peer with an identifier. Its peer's list gained these, and no other list any.
module _ (s t : State) (x : Stretch) (ys : List Story) (p : Peers) (id general : List ℕ) (opener : Opener) (free : (y : Story) → AcceptsByOpener opener y)
    (closed : Closed (view_at p s.world.fars) ys) (numbers : p.numbers ≡ s.peers.numbers) (many : length p.links ≡ length s.peers.links)
    (peer : ℕ) (placed : placed_under id s.world.field.listeners s.peers.numbers ≡ Some peer) (more : List Accepted)
    (accepted : map held t.world.fars ≡ with_held more peer p.numbers (map held s.world.fars)) (peers : t.peers ≡ with_link_within peer s.world.fars t.world.fars p)
    (puts : puts_in x.command x.told ≡ []) where
  abbrev v : View
  v = view_at p s.world.fars

  abbrev ds : List Device
  ds = s.world.field.listeners

  there : (k : Held) × (at v peer ≡ Some k) × (placed_under id ds (map held s.world.fars) ≡ Some k)
  there = at_own_place peer (next_number p) id ds p.numbers (map held s.world.fars) closed.base.held closed.base.apart (ap (placed_under id ds) numbers ∙ placed)

  abbrev k : Held
  k = there.0

  end_before : (end : FarEnd) × (end_numbered peer p.numbers s.world.fars ≡ Some end) × (record { limit = end.service.limit; accepted = end.service.accepted } ≡ k)
  end_before = end_held (end_numbered peer p.numbers s.world.fars) k (held_at peer p.numbers s.world.fars ∙ there.1)

  abbrev begun_end : FarEnd
  begun_end = end_before.0

  -- the story as its link begins
  abbrev begun_story : Story
  begun_story = new_story (length s.peers.links + 1) opener peer general (restarted serving begun_end general)

  abbrev story : Story
  story = goes_on s x t begun_story

  begins : Open (view_begun v peer (length k.accepted)) peer (ys ++ begun_story ∷ [])
  begins = open_here v peer ys closed k there.1 begun_story (ap (λ n. n + 1) (sym many)) refl (sym (ap (λ (h : Held). h.limit) end_before.2)) refl refl

  abbrev grown : Held
  grown = record { limit = k.limit; accepted = k.accepted ++ more }

  found_behind : at_number peer p.numbers (map held t.world.fars) ≡ Some grown
  found_behind = ap (at_number peer p.numbers) accepted ∙ at_own more peer p.numbers (map held s.world.fars) ∙ ap (adding more) there.1

  gained : gained_by peer s t ≡ more
  gained =
      gain peer s t k grown more (ap (λ ps. at_number peer ps (map held s.world.fars)) (sym numbers) ∙ there.1)
      (ap (λ (q : Peers). at_number peer q.numbers (map held t.world.fars)) peers ∙ found_behind) refl

  story_is : story ≡ went_on x.events (arrived_by s x begun_story) [] more begun_story
  story_is =
      let S : List Accepted → Story = λ gs. went_on x.events (arrived_by s x begun_story) (puts_in x.command x.told) gs begun_story in
      ap S gained ∙ ap (λ ps. went_on x.events (arrived_by s x begun_story) ps more begun_story) puts

  abbrev went : View
  went = view_more (view_begun v peer (length k.accepted)) peer more

  goes : Opened went peer (ys ++ story ∷ [])
  goes =
      let now : Story = begins.opened.now.story in
      let same : begun_story ≡ now = (last_equal ys (stories begins.opened.done) begun_story now begins.opened.told).1 in
      subst (Opened went peer) (last_story (goes_on s x t) ys begun_story)
      (opened_more (view_begun v peer (length k.accepted)) peer (ys ++ begun_story ∷ []) begins.opened more (goes_on s x t) x.events (arrived_by s x begun_story) []
      (subst (λ y. goes_on s x t y ≡ went_on x.events (arrived_by s x begun_story) [] more y) same story_is) (subst (λ y. KeepsLinkLaw (goes_on s x t y)) same (free story))).0

  counted : length goes.going.there.accepted ≡ accepted_at peer p t.world.fars
  counted =
      sym (count_is (end_numbered peer p.numbers t.world.fars)
      ∙ ap (λ h. length (taken_by h)) (held_at peer p.numbers t.world.fars ∙ ap (at_number peer p.numbers) accepted ∙ goes.going.found))

  start_is : length k.accepted ≡ accepted_at peer p s.world.fars
  start_is =
      sym (count_is (end_numbered peer p.numbers s.world.fars)
      ∙ ap (λ h. length (taken_by h)) (held_at peer p.numbers s.world.fars ∙ there.1))

  over : Closed (view_ended went (length goes.going.there.accepted)) (ys ++ story ∷ [])
  over = closed_here went peer (ys ++ story ∷ []) goes

  view_is : view_ended went (length goes.going.there.accepted) ≡ view_of t
  view_is =
      let V : List LinkRange → List (Option Held) → View = λ ls ks. record { numbers = p.numbers; placed = next_number p; links = ls; held = ks } in
      let R : ℕ → ℕ → LinkRange = λ a b. record { peer = peer; start = a; end = Some b } in
      let first : LinkRange = record { peer = peer; start = length k.accepted; end = None } in
      ap (λ ks. V (last_ended (length goes.going.there.accepted) (p.links ++ first ∷ [])) ks) (sym accepted)
      ∙ ap (λ ls. V ls (map held t.world.fars)) (last_range (length goes.going.there.accepted) p.links first)
      ∙ ap (λ a. V (p.links ++ R a (length goes.going.there.accepted) ∷ []) (map held t.world.fars)) start_is
      ∙ ap (λ b. V (p.links ++ R (accepted_at peer p s.world.fars) b ∷ []) (map held t.world.fars)) counted
      ∙ ap (λ q. view_at q t.world.fars) (sym peers)

  pub within_covered : Covered v → Covered (view_of t)
  within_covered all =
      subst Covered view_is (covered_over went peer (ys ++ story ∷ []) goes
      (covered_more (view_begun v peer (length k.accepted)) peer (ys ++ begun_story ∷ []) begins.opened more
      (covered_linked v (record { peer = peer; start = length k.accepted; end = None }) all)))

  -- what begins in the stretch is this story
  begun_is : begins_in x ≡ BeginsAndEnds opener id general → begun_by (begins_in x) (goes_on s x t) s t ≡ story ∷ []
  begun_is is =
      ap (λ (b : Beginning). begun_by b (goes_on s x t) s t) is ∙ ap (λ n. story_within opener general n (goes_on s x t) s) placed
      ∙ ap (λ o. whole_of opener general (length s.peers.links + 1) peer o (goes_on s x t)) (ap (λ ps. end_numbered peer ps s.world.fars) (sym numbers) ∙ end_before.1)

  behind_is : begins_in x ≡ BeginsAndEnds opener id general → (changed s x.command).link ≡ None → stories_behind s x t ys ≡ ys ++ story ∷ []
  behind_is is none =
      ap (λ o. open_goes_on o (goes_on s x t) ys ++ begun_by (begins_in x) (goes_on s x t) s t) none ∙ ap (λ zs. ys ++ zs) (begun_is is)

  pub within_stands : begins_in x ≡ BeginsAndEnds opener id general → (changed s x.command).link ≡ None → t.link ≡ None → HavePlaces t.world.field.listeners t.peers.numbers t.world.fars
      → Stand t (stories_behind s x t ys)
  within_stands is none gone places =
      subst (Stand t) (sym (behind_is is none)) (record {
        places = places;
        stand = subst (λ o. StandsBy o) (sym gone) (subst (λ w. Closed w (ys ++ story ∷ [])) view_is over);
      })
    where
      StandsBy : Option OpenLink → Type 0
      StandsBy o = StandBy (view_of t) o (ys ++ story ∷ [])
