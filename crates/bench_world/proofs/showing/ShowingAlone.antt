-- A command that asks nothing on the open link has no numbers of PDUs, or they decide nothing.
use Rattle.std.proofs.Common.{◌≡◌, ◌⊎◌, inl, inr, ℕ, List, [], Option, Some, None, refl, sym, ◌∙◌, ap, subst}
use Rattle.nfc_base.specs.declared.event.Event.{Event}
use Rattle.air_core.specs.Conversation.{AreTurns, Note, Over, queue_after, receptions, replay}
use Rattle.air_core.specs.laws.Turning.{due_weaker}
use Rattle.air_core.proofs.OneCourse.{one_course}
use Rattle.far_air.specs.FarWorld.{with_numbers}
use Rattle.peer_air.specs.PeerFars.{peer_ends}
use Rattle.link_numbers.proofs.far.FarFree.{replay_free, turns_free}
use Rattle.bench_script.specs.declared.command.Command.{Command}
use Rattle.bench_script.specs.declared.command.Command.TheVariants.{Skip, Fates, PlaceT2, PlaceT3, PlaceT4, PlaceT5, PlacePeer, Lock, Busy, Offer, Remove, Dump, Inbox, Find, Crowd, Poll3, Read, Read3}
use Rattle.bench_script.specs.declared.command.Command.TheVariants.{Write, Write3, Link, Forge, Raw, Put, Get, Lookup, OnPut, OnGet, Puts, Unlink}
use Rattle.bench_devices.specs.AnyFrame.{peers_in}
use Rattle.bench_devices.specs.Device.{device_linked, devices}
use Rattle.bench_world.specs.declared.entry.Answer.{Answer}
use Rattle.bench_world.specs.Asked.{asked_on_link}
use Rattle.bench_world.specs.Legal.{FrontOf, Given, Joins, State, world_at_start, changed, due, joins_for, link_after, no_joins, peers_forged, state_after, world_after}
use Rattle.bench_world.specs.Rawing.{raw_opens}
use Rattle.bench_world.specs.World.{WholeWorld, bench_air}
use Rattle.bench_world.proofs.lines.OneJournal.{same_events}
use Rattle.bench_world.specs.Showing.{MayShow}
use Rattle.bench_world.proofs.showing.ShowingTags.{none_handed}

-- Numbers decide nothing: no peer is placed, and they have a part in the world alone.
pub record IsFree (s : State) (c : Command) : Type 0 where
  none : peers_in s.world.field.listeners ≡ 0
  due_same : (g h : Given) (ns : List Note) → due s g c ns ≡ due s h c ns
  world_is : (j : Joins) → world_at_start s j c ≡ with_numbers s.world j.far
  left : (j k : Joins) (es : List Event) (told : Option Answer) → world_after s j c es ≡ world_after s k c es → state_after s j c es told ≡ state_after s k c es told

-- It has none, or they are such ones.
abbrev pub IsNumberless : State → Command → Type 0
IsNumberless s c = ((joins : Joins) → joins_for c joins ≡ no_joins) ⊎ IsFree s c

-- Payloads that are written by hand.
abbrev pub IsForge : Command → Type 0
IsForge c = (id : List ℕ) × (payloads : List (List ℕ)) × (c ≡ Forge id payloads)

pub numberless : (s : State) (c : Command) → asked_on_link c ≡ None → MayShow s c → IsForge c ⊎ IsNumberless s c
numberless s Skip e k = inr (inl (λ joins. refl))
numberless s (Fates fates) e k = inr (inl (λ joins. refl))
numberless s (PlaceT2 id blocks head) e k = inr (inl (λ joins. refl))
numberless s (PlaceT3 id blocks head) e k = inr (inl (λ joins. refl))
numberless s (PlaceT4 id code container head) e k = inr (inl (λ joins. refl))
numberless s (PlaceT5 id blocks size head) e k = inr (inl (λ joins. refl))
numberless s (PlacePeer id lr miu rw limit) e k = inr (inl (λ joins. refl))
numberless s (Lock id block) e k = inr (inl (λ joins. refl))
numberless s (Busy id count times) e k = inr (inl (λ joins. refl))
numberless s (Offer id key value) e k = inr (inl (λ joins. refl))
numberless s (Remove id) e k = inr (inl (λ joins. refl))
numberless s (Dump id) e k = inr (inl (λ joins. refl))
numberless s (Inbox id) e k = inr (inl (λ joins. refl))
numberless s Find e k = inr (inl (λ joins. refl))
numberless s Crowd e k = inr (inl (λ joins. refl))
numberless s Poll3 e k = inr (inl (λ joins. refl))
numberless s (Read id) e k = inr (inl (λ joins. refl))
numberless s (Read3 id) e k = inr (inl (λ joins. refl))
numberless s (Write id message) e k = inr (inl (λ joins. refl))
numberless s (Write3 id message) e k = inr (inl (λ joins. refl))
numberless s (Link id miu window) e k = inr (inl (λ joins. refl))
numberless s (Forge id payloads) e k = inl (id, payloads, refl)
numberless s (Raw id frames) e k = inr (inr (record {
  none = k;
  due_same = λ g h ns. refl;
  world_is = λ j. refl;
  left = λ j l es told e.
      ap (λ (w : WholeWorld). record {
        world = w;
        queue = queue_after (changed s (Raw id frames)).queue es;
        peers = peers_forged (raw_opens id frames es) s id w.fars;
        link = link_after s no_joins (Raw id frames) es told;
      }) e;
}))
numberless s (Put message) e k = absurd cc
numberless s (Get most key) e k = absurd cc
numberless s (Lookup name) e k = absurd cc
numberless s (OnPut slot message) e k = absurd cc
numberless s (OnGet slot most key) e k = absurd cc
numberless s (Puts puts) e k = absurd cc
numberless s Unlink e k = absurd cc

module _ (s : State) (c : Command) (kind : IsNumberless s c) (g h : Given) (es fs : List Event) (a b : Answer) (t u : State)
    (p : FrontOf s g c es (Some a) t) (done : due s g c (receptions es) ≡ Over) (q : FrontOf s h c fs (Some b) u) (over : due s h c (receptions fs) ≡ Over) where
  -- the same numbers, where it has none
  same_joins : ((joins : Joins) → joins_for c joins ≡ no_joins) → h.joins ≡ g.joins
  same_joins none = q.takes ∙ none h.joins ∙ sym (p.takes ∙ none g.joins)

  free_turns : IsFree s c → AreTurns bench_air (world_at_start s h.joins c) es
  free_turns f =
      subst (λ w. AreTurns bench_air w es) (sym (f.world_is h.joins))
      (turns_free devices device_linked peer_ends (with_numbers s.world g.joins.far) es h.joins.far (none_handed (with_numbers s.world g.joins.far) es f.none)
      (subst (λ w. AreTurns bench_air w es) (f.world_is g.joins) p.turns))

  -- the same happens
  pub alone_events : es ≡ fs
  alone_events = by kind
    where
      by : IsNumberless s c → es ≡ fs
      by (inl none) = same_events s c g h es fs a b t u p q done over (same_joins none)
      by (inr f) =
          one_course bench_air (due s h c) (world_at_start s h.joins c) (changed s c).queue es fs (free_turns f) q.turns p.fates q.fates
          (due_weaker (due s h c) (due s g c) (λ ns n e d. f.due_same h g ns ∙ e) [] es p.each) q.each (f.due_same h g (receptions es) ∙ done) over

  -- and leaves the same
  pub alone_left : state_after s g.joins c es (Some a) ≡ state_after s h.joins c es (Some a)
  alone_left = by kind
    where
      by : IsNumberless s c → state_after s g.joins c es (Some a) ≡ state_after s h.joins c es (Some a)
      by (inl none) = ap (λ j. state_after s j c es (Some a)) (sym (same_joins none))
      by (inr f) =
          let w : WholeWorld = with_numbers s.world g.joins.far in
          let free : replay bench_air (with_numbers s.world h.joins.far) es ≡ with_numbers (replay bench_air w es) h.joins.far =
          replay_free devices device_linked peer_ends es w h.joins.far (none_handed w es f.none) in
          f.left g.joins h.joins es (Some a)
          (ap (λ z. with_numbers (replay bench_air z es) []) (f.world_is g.joins) ∙ sym (ap (λ z. with_numbers z []) free)
          ∙ sym (ap (λ z. with_numbers (replay bench_air z es) []) (f.world_is h.joins)))
