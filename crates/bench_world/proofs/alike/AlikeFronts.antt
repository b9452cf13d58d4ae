-- A front of a command from a state in which no link is open is one from any state that is alike: what the command sends begins with a
-- reset, from which on the worlds are one.
use Rattle.std.proofs.Common.{◌≡◌, ◌⊎◌, inl, inr, List, [], Option, Some, None, IsSome, refl, sym, ◌∙◌, ap, subst}
use Rattle.nfc_base.specs.Signal.{Signal}
use Rattle.nfc_base.specs.declared.event.Event.{Event}
use Rattle.nfc_base.specs.declared.event.Fate.{Fate}
use Rattle.air_core.specs.Conversation.{Over, LightUp, Asks, EachDue, FatesFrom, queue_after, receptions}
use Rattle.far_air.specs.FarWorld.{with_numbers}
use Rattle.link_calls.specs.Asking.{LinkAsking}
use Rattle.bench_script.specs.declared.command.Command.{Command}
use Rattle.bench_script.specs.declared.command.Command.TheVariants.{Find, Crowd, Poll3, Read, Read3, Write, Write3, Link, Forge, Raw, Put, Get, Lookup, OnPut, OnGet, Puts}
use Rattle.bench_script.specs.declared.command.DeviceId.TheVariants.{A, V}
use Rattle.bench_world.specs.declared.entry.Answer.{Answer}
use Rattle.bench_world.specs.Alike.{Alike}
use Rattle.bench_world.specs.Asked.{asked_on_link}
use Rattle.bench_world.specs.Legal.{State, Given, FrontOf, world_at_start, changed, due, due_by, link_after, peers_after, state_after, world_after}
use Rattle.bench_world.specs.Links.{OpenLink}
use Rattle.bench_world.specs.Peers.{Peers}
use Rattle.bench_world.specs.World.{WholeWorld}
use Rattle.bench_world.proofs.alike.AlikeChanged.{no_link, accepts_same, asks_same, changed_queue, changed_world, link_after_same, none_behind, peers_after_same}
use Rattle.bench_world.proofs.alike.AlikeWorlds.{FromReset, SameWorld, behind, from_reset, numbered, same_behind, same_turns, to_dark}

-- a state of these parts
abbrev state_of : WholeWorld → List Fate → Peers → Option OpenLink → State
state_of x k n l = record { world = x; queue = k; peers = n; link = l }

-- Where no link is open, what is due first is a reset, or nothing.
first_due : (w : WholeWorld) (q : List Fate) (p : Peers) (g : Given) (c : Command) → (due (no_link w q p) g c [] ≡ Over) ⊎ (due (no_link w q p) g c [] ≡ LightUp)
first_due w q p g Find = inr refl
first_due w q p g Crowd = inr refl
first_due w q p g Poll3 = inr refl
first_due w q p g (Read (A id)) = inr refl
first_due w q p g (Read (V id)) = inr refl
first_due w q p g (Read3 id) = inr refl
first_due w q p g (Write (A id) m) = inr refl
first_due w q p g (Write (V id) m) = inr refl
first_due w q p g (Write3 id m) = inr refl
first_due w q p g (Link id miu window) = inr refl
first_due w q p g (Forge id payloads) = inr refl
first_due w q p g (Raw (A id) frames) = inr refl
first_due w q p g (Raw (V id) frames) = inr refl
first_due w q p g c = inl refl

-- A command that leaves a link open where none was sends something.
pub opens_or_none : (w : WholeWorld) (q : List Fate) (p : Peers) (g : Given) (c : Command) (es : List Event) (told : Option Answer)
    → (due (no_link w q p) g c [] ≡ LightUp) ⊎ (link_after (no_link w q p) g.joins c es told ≡ None)
opens_or_none w q p g (Link id miu window) es told = inl refl
opens_or_none w q p g (Put m) es told = inr (none_behind _ told g.joins.own es)
opens_or_none w q p g (Get most key) es told = inr (none_behind _ told g.joins.own es)
opens_or_none w q p g (Lookup name) es told = inr (none_behind _ told g.joins.own es)
opens_or_none w q p g (OnPut slot m) es told = inr (none_behind _ told g.joins.own es)
opens_or_none w q p g (OnGet slot most key) es told = inr (none_behind _ told g.joins.own es)
opens_or_none w q p g (Puts puts) es told = inr (none_behind _ told g.joins.own es)
opens_or_none w q p g c es told = inr refl

-- A command that is over sent something where a reset was due first.
pub was_sent : (s : State) (g : Given) (c : Command) (es : List Event) → due s g c [] ≡ LightUp → due s g c (receptions es) ≡ Over → es ≡ [] → ⊥
was_sent s g c es lit over none =
    let at : due s g c [] ≡ Over = subst (λ fs. due s g c (receptions fs) ≡ Over) none over in
    let clash : LightUp ≡ Over = sym lit ∙ at in
    cc

module _ (w v : WholeWorld) (same : SameWorld w v) (q : List Fate) (p : Peers) (g : Given) (c : Command) (es : List Event) where
  pub began : SameWorld (world_at_start (no_link w q p) g.joins c) (world_at_start (no_link v q p) g.joins c)
  began = numbered (changed (no_link w q p) c).world (changed (no_link v q p) c).world (changed_world w v same q p c) g.joins.far

  none_asked : (f : Signal) → due (no_link w q p) g c [] ≡ Asks f → ⊥
  none_asked f e = elim (first_due w q p g c) [
    | inl over ↦ (let clash : Over ≡ Asks f = sym over ∙ e in cc)
    | inr lit ↦ (let clash : LightUp ≡ Asks f = sym lit ∙ e in cc)
  ]

  pub starts : {told : Option Answer} (u : State) → FrontOf (no_link w q p) g c es told u → FromReset es
  starts u f = from_reset (due (no_link w q p) g c) none_asked (world_at_start (no_link w q p) g.joins c) es f.turns f.each

  -- what is due doesn't go by the world
  due_same : EachDue (due (no_link w q p) g c) [] es → EachDue (due (no_link v q p) g c) [] es
  due_same each = by_asked (asked_on_link c) each
    where
      by_asked : (o : Option LinkAsking) → EachDue (λ ns. due_by o (no_link w q p) g c ns) [] es → EachDue (λ ns. due_by o (no_link v q p) g c ns) [] es
      by_asked None h = h
      by_asked (Some asked) h = h

  pub over_same : due (no_link w q p) g c (receptions es) ≡ Over → due (no_link v q p) g c (receptions es) ≡ Over
  over_same over = by_asked (asked_on_link c) over
    where
      by_asked : (o : Option LinkAsking) → due_by o (no_link w q p) g c (receptions es) ≡ Over → due_by o (no_link v q p) g c (receptions es) ≡ Over
      by_asked None h = h
      by_asked (Some asked) h = h

  pub front_same : {told : Option Answer} (u : State) → FrontOf (no_link w q p) g c es told u → FrontOf (no_link v q p) g c es told (state_after (no_link v q p) g.joins c es told)
  front_same u f = record {
    accepted = accepts_same w v same q p c f.accepted;
    asks = asks_same w v same q p c g.asked f.asks;
    takes = f.takes;
    turns = same_turns (world_at_start (no_link w q p) g.joins c) (world_at_start (no_link v q p) g.joins c) began es (starts u f) f.turns;
    fates = subst (λ k. FatesFrom k es) (changed_queue w v same q p c) f.fates;
    each = due_same f.each;
    after = refl;
  }

  module _ (start : FromReset es) where
    pub worlds_after : SameWorld (world_after (no_link w q p) g.joins c es) (world_after (no_link v q p) g.joins c es)
    worlds_after =
        numbered _ _ (behind (world_at_start (no_link w q p) g.joins c) (world_at_start (no_link v q p) g.joins c) began es start) []

    pub world_after_same : (es ≡ [] → ⊥) → world_after (no_link w q p) g.joins c es ≡ world_after (no_link v q p) g.joins c es
    world_after_same some =
        ap (λ (x : WholeWorld). with_numbers x []) (same_behind (world_at_start (no_link w q p) g.joins c) (world_at_start (no_link v q p) g.joins c) began es start some)

    -- both lead on alike
    leads_alike : (told : Option Answer) → (IsSome (link_after (no_link w q p) g.joins c es told) → es ≡ [] → ⊥)
        → Alike (state_after (no_link w q p) g.joins c es told) (state_after (no_link v q p) g.joins c es told)
    leads_alike told some = record {
      link = link;
      lit = worlds_after.lit;
      queue = queue;
      peers = peers;
      stays = to_dark (world_after (no_link w q p) g.joins c es) (world_after (no_link v q p) g.joins c es) worlds_after;
      whole = λ open_.
          ap (λ x. state_of x (queue_after (changed (no_link w q p) c).queue es) (peers_after (no_link w q p) g.joins c es told) (link_after (no_link w q p) g.joins c es told))
          (world_after_same (some open_))
          ∙ ap (λ x. state_of (world_after (no_link v q p) g.joins c es) x (peers_after (no_link w q p) g.joins c es told) (link_after (no_link w q p) g.joins c es told)) queue
          ∙ ap (λ x. state_of (world_after (no_link v q p) g.joins c es) (queue_after (changed (no_link v q p) c).queue es) x (link_after (no_link w q p) g.joins c es told)) peers
          ∙ ap (state_of (world_after (no_link v q p) g.joins c es) (queue_after (changed (no_link v q p) c).queue es) (peers_after (no_link v q p) g.joins c es told)) link;
    }
      where
        link : link_after (no_link w q p) g.joins c es told ≡ link_after (no_link v q p) g.joins c es told
        link = link_after_same w v same q p g.joins c es told

        queue : queue_after (changed (no_link w q p) c).queue es ≡ queue_after (changed (no_link v q p) c).queue es
        queue = ap (λ k. queue_after k es) (changed_queue w v same q p c)

        peers : peers_after (no_link w q p) g.joins c es told ≡ peers_after (no_link v q p) g.joins c es told
        peers = peers_after_same w v same q p g.joins es told c worlds_after.fars

  pub leads_on : {told : Option Answer} (u : State) → FrontOf (no_link w q p) g c es told u → (IsSome (link_after (no_link w q p) g.joins c es told) → es ≡ [] → ⊥)
      → Alike u (state_after (no_link v q p) g.joins c es told)
  leads_on {told} u f some =
      subst (λ x. Alike x (state_after (no_link v q p) g.joins c es told)) (sym f.after) (leads_alike (starts u f) told some)
