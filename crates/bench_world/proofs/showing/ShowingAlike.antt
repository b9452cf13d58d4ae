-- What a step leaves is alike by whatever numbers its events can be had, and the same is told of it.
use Rattle.std.proofs.Common.{◌≡◌, ℕ, List, [], ◌∷◌, ◌++◌, Bool, true, false, if◌then◌else◌, Option, Some, None, refl, sym, ◌∙◌, ap, subst}
use Rattle.std.specs.Prelude.{IsSome, map}
use Rattle.nfc_base.specs.declared.event.Event.{Event}
use Rattle.air_core.specs.Conversation.{AreTurns, EachDue, Over, queue_after, receptions, replay}
use Rattle.far_air.specs.FarEnds.{rests}
use Rattle.far_air.specs.FarWorld.{far_dark, with_numbers}
use Rattle.peer_air.specs.PeerFars.{peer_ends}
use Rattle.link_calls.specs.Asking.{LinkAsking, Does, Closes, Call}
use Rattle.link_calls.specs.CallDue.{CallStanding, Carries, Comes, BrokenBy, Strays, by_client}
use Rattle.link_numbers.proofs.far.FarShown.{SameDark}
use Rattle.link_numbers.proofs.far.FarWalk.{HasCome}
use Rattle.bench_script.specs.declared.command.Command.{Command}
use Rattle.bench_devices.specs.Device.{device_linked, devices}
use Rattle.bench_world.specs.declared.entry.Answer.{Answer}
use Rattle.bench_world.specs.Asked.{asked_on_link}
use Rattle.bench_world.specs.Calls.{asked_behind, due_asked, link_behind, stands_on, told_asked}
use Rattle.bench_world.specs.Legal.{Accepts, Given, Joins, State, world_at_start, changed, due, link_after, link_left, peers_after, peers_left, state_after, world_after}
use Rattle.bench_world.specs.Links.{OpenLink, accepted_by, end_numbered, ended_unless, is_number, with_last_ended}
use Rattle.bench_world.specs.Peers.{Peers}
use Rattle.bench_world.specs.World.{FarEnd, WholeWorld, bench_air}
use Rattle.bench_world.specs.Alike.{Alike}
use Rattle.bench_world.specs.Showing.{IsBetweenCommands, shown_of}
use Rattle.bench_world.proofs.devices.FarDevices.{ShowsWell}
use Rattle.bench_world.proofs.showing.ShowingFar.{HasEnded}
use Rattle.bench_world.proofs.showing.ShowingLink.{begun_on, due_on_link, far_on, own_on, shown_on}
use Rattle.bench_world.proofs.showing.ShowingOwn.{OwnSame}

pub alike_back : (s t : State) → Alike s t → Alike t s
alike_back s t a = record {
  link = sym a.link;
  lit = sym a.lit;
  queue = sym a.queue;
  peers = sym a.peers;
  stays = sym a.stays;
  whole = λ h. sym (a.whole (subst IsSome (sym a.link) h));
}

pub alike_on : (s t u : State) → Alike s t → Alike t u → Alike s u
alike_on s t u a b = record {
  link = a.link ∙ b.link;
  lit = a.lit ∙ b.lit;
  queue = a.queue ∙ b.queue;
  peers = a.peers ∙ b.peers;
  stays = a.stays ∙ b.stays;
  whole = λ h. a.whole h ∙ b.whole (subst IsSome a.link h);
}

pub alike_same : (s t : State) → s ≡ t → Alike s t
alike_same s t e = subst (Alike s) e (record { link = refl; lit = refl; queue = refl; peers = refl; stays = refl; whole = λ h. refl })

-- what a server accepted stays
rest_accepts : (o : Option FarEnd) → accepted_by (rests peer_ends o) ≡ accepted_by o
rest_accepts None = refl
rest_accepts (Some l) = refl

pub all_accept : (n : ℕ) (ps : List (Option ℕ)) (os : List (Option FarEnd)) → accepted_by (end_numbered n ps (map (rests peer_ends) os)) ≡ accepted_by (end_numbered n ps os)
all_accept n [] os = refl
all_accept n (p ∷ ps) [] = by (is_number n p) (all_accept n ps [])
  where
    by : (v : Bool) → accepted_by (end_numbered n ps []) ≡ accepted_by (end_numbered n ps [])
        → accepted_by (if v then None else end_numbered n ps []) ≡ accepted_by (if v then None else end_numbered n ps [])
    by v e = refl
all_accept n (p ∷ ps) (o ∷ os) = by (is_number n p) (all_accept n ps os)
  where
    by : (v : Bool) → accepted_by (end_numbered n ps (map (rests peer_ends) os)) ≡ accepted_by (end_numbered n ps os)
        → accepted_by (if v then rests peer_ends o else end_numbered n ps (map (rests peer_ends) os)) ≡ accepted_by (if v then o else end_numbered n ps os)
    by true e = rest_accepts o
    by false e = e

peers_same : (o : Option OpenLink) (l : OpenLink) (p : Peers) (xs ys : List (Option FarEnd)) → map (rests peer_ends) xs ≡ map (rests peer_ends) ys
    → ended_unless o (Some l) xs p ≡ ended_unless o (Some l) ys p
peers_same (Some k) l p xs ys e = refl
peers_same None l p xs ys e =
    ap (λ n. with_last_ended n p)
    (sym (all_accept l.peer p.numbers xs) ∙ ap (λ os. accepted_by (end_numbered l.peer p.numbers os)) e ∙ all_accept l.peer p.numbers ys)

-- a link that is open still is one on which all came to its end
behind_came : (l : OpenLink) (call : Call) (c : CallStanding) → IsSome (link_behind l call c) → HasCome by_client c
behind_came l call (Carries w s) h = absurd cc
behind_came l call (Comes to i) h = tt
behind_came l call (BrokenBy cause) h = absurd cc
behind_came l call Strays h = absurd cc

open_ended : (asked : LinkAsking) (l : OpenLink) (own : List ℕ) (es : List Event) (a : Answer) → IsSome (asked_behind asked (Some a) (Some l) own es) → HasEnded asked l own es
open_ended (Does call) l own es a h = behind_came l call (stands_on l own call es) h
open_ended Closes l own es a h = absurd cc

-- turns of a command on the open link that are over, by some numbers, and by those that they show
module _ (s : State) (c : Command) (asked : LinkAsking) (on : asked_on_link c ≡ Some asked) (l : OpenLink) (open_ : s.link ≡ Some l) (b : IsBetweenCommands s) (g : Given) (es : List Event)
    (a : Answer)
    (turns : AreTurns bench_air (world_at_start s g.joins c) es) (each : EachDue (due s g c) [] es) (over : due s g c (receptions es) ≡ Over) where
  abbrev pub shown : Joins
  shown = shown_of s c (es ++ [])

  abbrev by_shown : Given
  by_shown = record { asked = g.asked; joins = shown }

  own : OwnSame asked l g.joins.own shown.own es []
  own = own_on s c asked on l open_ b g by_shown es [] refl turns each

  done : due_asked asked l g.joins.own (receptions es) ≡ Over
  done = sym (due_on_link s c asked on l open_ g (receptions es)) ∙ over

  pub told_shown : told_asked asked l shown.own es ≡ told_asked asked l g.joins.own es
  told_shown = own.told done

  abbrev pub after : Joins → State
  after joins = state_after s joins c es (Some a)

  link_is : (joins : Joins) → link_after s joins c es (Some a) ≡ asked_behind asked (Some a) (Some l) joins.own es
  link_is joins = ap (λ o. link_left o s joins c es (Some a)) on ∙ ap (λ o. asked_behind asked (Some a) o joins.own es) open_

  same_link : link_after s g.joins c es (Some a) ≡ link_after s shown c es (Some a)
  same_link = link_is g.joins ∙ sym (own.behind (Some a) done) ∙ sym (link_is shown)

  abbrev behind : Joins → WholeWorld
  behind joins = replay bench_air (world_at_start s joins c) es

  abbrev from : List ℕ → WholeWorld
  from ns = replay bench_air (with_numbers s.world ns) es

  world_is : (joins : Joins) → behind joins ≡ from joins.far
  world_is joins = ap (λ w. replay bench_air w es) (begun_on s c asked on joins)

  module _ (may : Accepts s c) where
    far : ShowsWell (with_numbers s.world g.joins.far) shown.far es (HasEnded asked l g.joins.own es)
    far =
        subst (λ (j : Joins). ShowsWell (with_numbers s.world g.joins.far) j.far es (HasEnded asked l g.joins.own es)) (sym (shown_on s c asked on l open_ (es ++ [])))
        (far_on s c asked on l open_ b g by_shown es [] refl turns each may)

    dark : SameDark devices device_linked peer_ends (behind g.joins) (behind shown)
    dark =
        subst (λ w. SameDark devices device_linked peer_ends w (behind shown)) (sym (world_is g.joins))
        (subst (λ w. SameDark devices device_linked peer_ends (from g.joins.far) w) (sym (world_is shown)) far.alike)

    stays_same : far_dark devices device_linked peer_ends (world_after s g.joins c es) ≡ far_dark devices device_linked peer_ends (world_after s shown c es)
    stays_same = sym dark.dark

    peers_are : (joins : Joins) → peers_after s joins c es (Some a) ≡ ended_unless (link_after s joins c es (Some a)) (Some l) (behind joins).fars s.peers
    peers_are joins =
        ap (λ o. peers_left o s joins c es (Some a)) on ∙ ap (λ o. ended_unless (link_after s joins c es (Some a)) o (behind joins).fars s.peers) open_

    same_peers : peers_after s g.joins c es (Some a) ≡ peers_after s shown c es (Some a)
    same_peers =
        peers_are g.joins ∙ ap (λ o. ended_unless o (Some l) (behind g.joins).fars s.peers) same_link
        ∙ peers_same (link_after s shown c es (Some a)) l s.peers (behind g.joins).fars (behind shown).fars (ap (λ (w : WholeWorld). w.fars) stays_same) ∙ sym (peers_are shown)

    same_world : IsSome (link_after s g.joins c es (Some a)) → world_after s g.joins c es ≡ world_after s shown c es
    same_world h =
        let ended : HasEnded asked l g.joins.own es = open_ended asked l g.joins.own es a (subst IsSome (link_is g.joins) h) in
        ap (λ w. with_numbers w []) (world_is g.joins) ∙ sym (far.done ended) ∙ ap (λ w. with_numbers w []) (sym (world_is shown))

    -- It leaves states alike.
    pub alike_shown : Alike (after g.joins) (after shown)
    alike_shown =
        let S : WholeWorld → Peers → Option OpenLink → State = λ w p k. record { world = w; queue = queue_after (changed s c).queue es; peers = p; link = k } in
        record {
          link = same_link;
          lit = sym dark.lit;
          queue = refl;
          peers = same_peers;
          stays = stays_same;
          whole = λ h.
              ap (λ w. S w (peers_after s g.joins c es (Some a)) (link_after s g.joins c es (Some a))) (same_world h)
              ∙ ap (λ p. S (world_after s shown c es) p (link_after s g.joins c es (Some a))) same_peers ∙ ap (S (world_after s shown c es) (peers_after s shown c es (Some a))) same_link;
        }

-- Where no link is open such a command leaves the state as it was, by whatever numbers.
module _ (s : State) (c : Command) (asked : LinkAsking) (on : asked_on_link c ≡ Some asked) (none : s.link ≡ None) (a : Answer) where
  none_behind : (k : LinkAsking) (joins : Joins) (es : List Event) → asked_behind k (Some a) None joins.own es ≡ None
  none_behind (Does call) joins es = refl
  none_behind Closes joins es = refl

  link_none : (joins : Joins) (es : List Event) → link_after s joins c es (Some a) ≡ None
  link_none joins es =
      ap (λ o. link_left o s joins c es (Some a)) on ∙ ap (λ o. asked_behind asked (Some a) o joins.own es) none ∙ none_behind asked joins es

  peers_none : (joins : Joins) (es : List Event) → peers_after s joins c es (Some a) ≡ s.peers
  peers_none joins es =
      let fars : List (Option FarEnd) = (world_after s joins c es).fars in
      ap (λ o. peers_left o s joins c es (Some a)) on ∙ ap (λ k. ended_unless k s.link fars s.peers) (link_none joins es) ∙ ap (λ o. ended_unless None o fars s.peers) none

  pub same_none : (j k : Joins) (es : List Event) → es ≡ [] → state_after s j c es (Some a) ≡ state_after s k c es (Some a)
  same_none j k es nothing =
      let S : Peers → Option OpenLink → State = λ p o. record { world = world_after s j c []; queue = queue_after (changed s c).queue []; peers = p; link = o } in
      let at_start : state_after s j c [] (Some a) ≡ state_after s k c [] (Some a) =
      ap (λ p. S p (link_after s j c [] (Some a))) (peers_none j [] ∙ sym (peers_none k []))
      ∙ ap (S (peers_after s k c [] (Some a))) (link_none j [] ∙ sym (link_none k [])) in
      subst (λ xs. state_after s j c xs (Some a) ≡ state_after s k c xs (Some a)) (sym nothing) at_start
