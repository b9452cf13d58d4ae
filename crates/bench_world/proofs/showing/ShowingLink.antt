-- A command on the open link goes the same way by the numbers that its events show.
use Rattle.std.proofs.Common.{◌≡◌, List, [], ◌++◌, Option, Some, None, refl, sym, ◌∙◌, ap, subst, append_assoc}
use Rattle.std.specs.Prelude.{IfSome}
use Rattle.nfc_base.specs.Trace.{back_of}
use Rattle.nfc_base.specs.declared.event.Event.{Event}
use Rattle.air_core.specs.Conversation.{AreTurns, EachDue, Note, Over, receptions}
use Rattle.air_core.specs.laws.Turning.{due_weaker}
use Rattle.air_core.proofs.Following.{nothing_more, trace_first}
use Rattle.far_air.specs.FarWorld.{with_numbers}
use Rattle.link_calls.specs.Asking.{LinkAsking}
use Rattle.link_numbers.specs.Shown.{far_shown}
use Rattle.bench_script.specs.declared.command.Command.{Command}
use Rattle.bench_script.specs.declared.command.Command.TheVariants.{Skip, Fates, PlaceT2, PlaceT3, PlaceT4, PlaceT5, PlacePeer, Lock, Busy, Offer, Remove, Dump, Inbox, Find, Crowd, Poll3, Read, Read3}
use Rattle.bench_script.specs.declared.command.Command.TheVariants.{Write, Write3, Link, Forge, Raw, Put, Get, Lookup, OnPut, OnGet, Puts, Unlink}
use Rattle.bench_world.specs.declared.entry.Answer.{Answer}
use Rattle.bench_world.specs.Asked.{asked_on_link}
use Rattle.bench_world.specs.Calls.{due_asked, due_if}
use Rattle.bench_world.specs.Legal.{Accepts, FrontOf, Given, Joins, State, world_at_start, changed, due, due_by}
use Rattle.bench_world.specs.Links.{OpenLink}
use Rattle.bench_world.specs.World.{bench_air}
use Rattle.bench_world.specs.Showing.{BeginsSame, IsBetweenCommands, first_pni, joins_shown, shown_by, shown_of}
use Rattle.bench_world.proofs.devices.FarDevices.{ShowsWell}
use Rattle.bench_world.proofs.showing.ShowingFar.{CutsOn, HasEnded, far_goes}
use Rattle.bench_world.proofs.showing.ShowingOwn.{OwnSame, own_same, link_cuts}
use Rattle.bench_world.proofs.sizes.SizedStates.{accepted_name_fits, midst_cuts}
use Rattle.bench_world.proofs.sizes.SizedWalks.{AskedNameFits}
use Rattle.bench_world.proofs.showing.ShowingStep.{GoesSame, begins_same}

-- a command that asks something on the open link changes nothing before that
pub changes_none : (s : State) (c : Command) (asked : LinkAsking) → asked_on_link c ≡ Some asked → changed s c ≡ s
changes_none s Skip asked e = refl
changes_none s (Fates fates) asked e = absurd cc
changes_none s (PlaceT2 id blocks head) asked e = absurd cc
changes_none s (PlaceT3 id blocks head) asked e = absurd cc
changes_none s (PlaceT4 id code container head) asked e = absurd cc
changes_none s (PlaceT5 id blocks size head) asked e = absurd cc
changes_none s (PlacePeer id lr miu rw limit) asked e = absurd cc
changes_none s (Lock id block) asked e = absurd cc
changes_none s (Busy id count times) asked e = absurd cc
changes_none s (Offer id key value) asked e = absurd cc
changes_none s (Remove id) asked e = absurd cc
changes_none s (Dump id) asked e = refl
changes_none s (Inbox id) asked e = refl
changes_none s Find asked e = absurd cc
changes_none s Crowd asked e = absurd cc
changes_none s Poll3 asked e = absurd cc
changes_none s (Read id) asked e = absurd cc
changes_none s (Read3 id) asked e = absurd cc
changes_none s (Write id message) asked e = absurd cc
changes_none s (Write3 id message) asked e = absurd cc
changes_none s (Link id miu window) asked e = absurd cc
changes_none s (Forge id payloads) asked e = absurd cc
changes_none s (Raw id frames) asked e = absurd cc
changes_none s (Put message) asked e = refl
changes_none s (Get most key) asked e = refl
changes_none s (Lookup name) asked e = refl
changes_none s (OnPut slot message) asked e = refl
changes_none s (OnGet slot most key) asked e = refl
changes_none s (Puts puts) asked e = refl
changes_none s Unlink asked e = refl

-- what a bench keeps holds in the midst of a command
pub cuts_on : (s : State) (joins : Joins) (c : Command) → IsBetweenCommands s → CutsOn (world_at_start s joins c)
cuts_on s joins c b before = midst_cuts s joins c before b.cuts

module _ (s : State) (c : Command) (asked : LinkAsking) (on : asked_on_link c ≡ Some asked) where
  -- its numbers are those that are shown
  pub shown_on : (l : OpenLink) → s.link ≡ Some l → (es : List Event) → shown_of s c es ≡ joins_shown l.initiator.core.number es
  shown_on l open_ es =
      ap (λ o. shown_by o s c es) on ∙ ap (λ o. joins_shown (first_pni o) es) open_

  pub due_on_link : (l : OpenLink) → s.link ≡ Some l → (g : Given) (ns : List Note) → due s g c ns ≡ due_asked asked l g.joins.own ns
  due_on_link l open_ g ns = ap (λ o. due_by o s g c ns) on ∙ ap (λ o. due_if o (λ k. due_asked asked k g.joins.own ns)) open_

  -- where no link is open nothing is due
  pub due_on_none : s.link ≡ None → (g : Given) (ns : List Note) → due s g c ns ≡ Over
  due_on_none none g ns = ap (λ o. due_by o s g c ns) on ∙ ap (λ o. due_if o (λ k. due_asked asked k g.joins.own ns)) none

  pub begun_on : (joins : Joins) → world_at_start s joins c ≡ with_numbers s.world joins.far
  begun_on joins = ap (λ (t : State). with_numbers t.world joins.far) (changes_none s c asked on)

  module _ (l : OpenLink) (open_ : s.link ≡ Some l) (b : IsBetweenCommands s) (g h : Given) where
    -- turns of the command, each due, and events that stand behind them
    module _ (turned more : List Event) (shown : h.joins ≡ shown_of s c (turned ++ more)) (turns : AreTurns bench_air (world_at_start s g.joins c) turned) (each : EachDue (due s g c) [] turned) where
      numbers_are : h.joins ≡ joins_shown l.initiator.core.number (turned ++ more)
      numbers_are = shown ∙ shown_on l open_ (turned ++ more)

      each_asked : EachDue (due_asked asked l g.joins.own) [] turned
      each_asked = due_weaker (due_asked asked l g.joins.own) (due s g c) (λ ns n e d. sym (due_on_link l open_ g ns) ∙ e) [] turned each

      pub own_on : OwnSame asked l g.joins.own h.joins.own turned more
      own_on =
          subst (λ (j : Joins). OwnSame asked l g.joins.own j.own turned more) (sym numbers_are)
          (own_same asked l g.joins.own turned more (link_cuts s l b open_).rests (link_cuts s l b open_).client.miu each_asked)

      module _ (may : Accepts s c) where
        -- what the peer does with both
        pub far_on : ShowsWell (with_numbers s.world g.joins.far) (far_shown l.initiator.core.number (turned ++ more)) turned (HasEnded asked l g.joins.own turned)
        far_on =
            far_goes s l b open_ g.joins.far asked g.joins.own turned more (subst (λ w. AreTurns bench_air w turned) (begun_on g.joins) turns) each_asked
            (subst (λ o. IfSome o AskedNameFits) on (accepted_name_fits s c may)) (subst CutsOn (begun_on g.joins) (cuts_on s g.joins c b))

        pub turns_on : AreTurns bench_air (world_at_start s h.joins c) turned
        turns_on =
            subst (λ w. AreTurns bench_air w turned) (sym (begun_on h.joins))
            (subst (λ (j : Joins). AreTurns bench_air (with_numbers s.world j.far) turned) (sym numbers_are) far_on.turns)

        pub goes_on_link : GoesSame bench_air (world_at_start s h.joins c) (due s g c) (due s h c) turned more
        goes_on_link =
            let k = own_on in
            let D : (ns : List Note) → due s g c ns ≡ due_asked asked l g.joins.own ns = λ ns. due_on_link l open_ g ns in
            let E : (ns : List Note) → due s h c ns ≡ due_asked asked l h.joins.own ns = λ ns. due_on_link l open_ h ns in
            record {
              turns = turns_on;
              each = due_weaker (due s h c) (due_asked asked l h.joins.own) (λ ns n e d. E ns ∙ e) [] turned k.each;
              asks = λ f x tail is e. E (receptions turned) ∙ k.asks f x tail is (sym (D (receptions turned)) ∙ e);
              over = λ e. E (receptions turned) ∙ k.over (sym (D (receptions turned)) ∙ e);
              over_back = λ e. D (receptions turned) ∙ k.over_back (sym (E (receptions turned)) ∙ e);
            }

    -- two fronts that are over, by some numbers and by those that events show
    pub begins_on_link : (es rest fs more : List Event) (p q : Option Answer) (t u : State) → h.joins ≡ shown_of s c (es ++ more)
        → FrontOf s g c (es ++ rest) p t → due s g c (receptions (es ++ rest)) ≡ Over → FrontOf s h c fs q u → due s h c (receptions fs) ≡ Over → BeginsSame es rest fs
    begins_on_link es rest fs more p q t u shown front over front_by over_by =
        begins_same bench_air (due s g c) (due s h c) (world_at_start s g.joins c) (world_at_start s h.joins c) (changed s c).queue es rest fs front.turns front.each front.fates over
        front_by.turns front_by.each front_by.fates over_by more
        (λ turned tail is turns each.
        goes_on_link turned (tail ++ more) (shown ∙ ap (shown_of s c) (ap (λ z. z ++ more) is ∙ append_assoc turned tail more)) turns each front.accepted)

  -- where no link is open nothing happens
  pub none_happens : s.link ≡ None → (g : Given) (es : List Event) (told : Option Answer) (t : State) → FrontOf s g c es told t → es ≡ []
  none_happens none g es told t front =
      nothing_more bench_air (due s g c) [] es (due_on_none none g []) (ap back_of front.turns.made ∙ trace_first bench_air (world_at_start s g.joins c) front.turns.moves) front.each
