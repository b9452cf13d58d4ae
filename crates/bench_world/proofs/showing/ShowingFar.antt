-- While something is asked on the open link of a bench, the numbers that the answers of its peer show are as good as the true ones.
use Rattle.std.proofs.Common.{◌≡◌, ℕ, zero, suc, ◌≤◌, true, List, [], ◌∷◌, ◌++◌, length, Option, Some, None, sym, ◌∙◌, ap, subst}
use Rattle.std.specs.Prelude.{IfSome, get_or}
use Rattle.std.specs.List.{AllByRecursion}
use Rattle.nfc_base.specs.Choosing.{first_number}
use Rattle.nfc_base.specs.Far.{FarUse, Untouched, Restarts, Hands}
use Rattle.nfc_base.specs.Signal.{Signal}
use Rattle.nfc_base.specs.declared.event.Event.{Event}
use Rattle.nfc_base.specs.declared.event.Event.TheVariants.{Reset, Request, Answer, Clash}
use Rattle.nfc_base.specs.declared.event.Fate.{Fate}
use Rattle.nfc_base.specs.declared.event.Fate.TheVariants.{Pass, Damage, Lose, Break}
use Rattle.air_core.specs.Conversation.{AreTurns, EachDue, receptions, replay}
use Rattle.air_core.specs.World.{hands_over}
use Rattle.dep_link.specs.Sizes.{limit}
use Rattle.far_air.specs.FarEnds.{by_link, first_far, later_fars, numbers_left, reply_to}
use Rattle.far_air.specs.FarLaws.{shown}
use Rattle.far_air.specs.FarWorld.{far_happens, reply_at, with_numbers}
use Rattle.peer_air.specs.PeerFars.{peer_ends}
use Rattle.snep_core.specs.Talk.{closes}
use Rattle.link_calls.specs.Asking.{LinkAsking, Does, Closes, call_begins}
use Rattle.link_calls.specs.CallDue.{by_client, call_stand, next_of}
use Rattle.link_calls.specs.ClosingDue.{closing_stand}
use Rattle.link_numbers.specs.Shown.{far_shown}
use Rattle.link_numbers.proofs.far.FarClosing.{HasClosed}
use Rattle.link_numbers.proofs.far.FarFit.{FitsAt, RepliesAt, RepliesFit}
use Rattle.link_numbers.proofs.far.FarWalk.{HasCome}
use Rattle.bench_devices.specs.declared.device.Device.{Device}
use Rattle.bench_devices.specs.Device.{device_end, device_linked, devices}
use Rattle.bench_world.specs.Calls.{due_asked}
use Rattle.bench_world.specs.Legal.{State}
use Rattle.bench_world.specs.Links.{OpenLink}
use Rattle.bench_world.specs.Obeying.{linked_at}
use Rattle.bench_world.specs.Opened.{IsOpen}
use Rattle.bench_world.specs.World.{FarEnd, WholeWorld, bench_air}
use Rattle.bench_world.proofs.open_link.OnLink.{linked_in}
use Rattle.bench_world.specs.Cutting.{CutsReplies, GivesShort, WorldCuts}
use Rattle.bench_world.specs.Showing.{IsBetweenCommands}
use Rattle.bench_world.proofs.sizes.SizedStates.{replies_short}
use Rattle.bench_world.proofs.sizes.SizedWalks.{AskedNameFits, call_outs, closing_outs}
use Rattle.bench_world.proofs.sizes.SizedWorld.{Above, all_among, far_so, first_so, later_so}
use Rattle.bench_world.proofs.devices.FarDevices.{ShowsWell, TalksTo, closing_shows, talks_at, walk_shows}
use Rattle.bench_world.proofs.showing.ShowingOwn.{link_cuts, opened_at}

-- what stands at a place
shown_there : (ds : List Device) (os : List (Option FarEnd)) (place : ℕ) (a : FarEnd) → linked_at place ds ≡ true → get_or os place None ≡ Some a
    → get_or (shown device_linked peer_ends ds os) place None ≡ Some a
shown_there [] os place a linked e = absurd cc
shown_there (d ∷ ds) [] place a linked e = absurd cc
shown_there (d ∷ ds) (o ∷ os) zero a linked e = ap (λ v. by_link peer_ends v o) linked ∙ e
shown_there (d ∷ ds) (o ∷ os) (suc place) a linked e = shown_there ds os place a linked e

-- No reply is longer than a payload may be, at whatever frame.
short_to : (u : FarUse) (o : Option FarEnd) (n : ℕ) (r : List ℕ) → IfSome o GivesShort → reply_to peer_ends u o n ≡ Some r → length r ≤ limit
short_to Untouched o n r h e = absurd cc
short_to (Restarts general) o n r h e = absurd cc
short_to (Hands p) None n r h e = absurd cc
short_to (Hands p) (Some a) n r h e =
    let is : r ≡ peer_ends.reply a p n = (let same : Some (peer_ends.reply a p n) ≡ Some r = e in cc) in
    subst (λ xs. length xs ≤ limit) (sym is) (replies_short a p n h).0

short_at : (f : Signal) (ds : List Device) (os : List (Option FarEnd)) (ns : List ℕ) → AllByRecursion (Above GivesShort) os → RepliesAt devices device_linked peer_ends f ds os ns
short_at f [] os ns h = tt
short_at f (d ∷ ds) os ns h = (
  λ r e. short_to (hands_over devices d f) (first_far os) (first_number ns) r (first_so GivesShort os h) e,
  short_at f ds (later_fars os) (numbers_left (reply_at devices device_linked peer_ends d f (first_far os) ns) ns) (later_so GivesShort os h),
)

fits_at : (x : Fate) (f : Signal) (w : WholeWorld) → WorldCuts w → FitsAt devices device_linked peer_ends x f w
fits_at Pass f w h = short_at f w.field.listeners w.fars w.numbers h.ends
fits_at Damage f w h = tt
fits_at Lose f w h = tt
fits_at Break f w h = tt

-- a world that cuts well, also behind whatever events
abbrev pub CutsOn : WholeWorld → Type 0
CutsOn w = (before : List Event) → WorldCuts (replay bench_air w before)

later_cuts : (w : WholeWorld) (e : Event) → CutsOn w → CutsOn (far_happens devices device_linked peer_ends w e)
later_cuts w e h before = h (e ∷ before)

pub replies_fit : (es : List Event) (w : WholeWorld) → CutsOn w → RepliesFit devices device_linked peer_ends w es
replies_fit [] w h = tt
replies_fit (Reset ∷ es) w h = replies_fit es (far_happens devices device_linked peer_ends w Reset) (later_cuts w Reset h)
replies_fit (Request f x ∷ es) w h = (fits_at x f w (h []), replies_fit es (far_happens devices device_linked peer_ends w (Request f x)) (later_cuts w (Request f x) h))
replies_fit (Answer g x ∷ es) w h = replies_fit es (far_happens devices device_linked peer_ends w (Answer g x)) (later_cuts w (Answer g x) h)
replies_fit (Clash g x ∷ es) w h = replies_fit es (far_happens devices device_linked peer_ends w (Clash g x)) (later_cuts w (Clash g x) h)

-- what was asked came to its end
abbrev pub HasEnded : LinkAsking → OpenLink → List ℕ → List Event → Type 0
HasEnded (Does call) l own es = HasCome by_client (call_stand own (call_begins l.client call) l.initiator (receptions es))
HasEnded Closes l own es = HasClosed (closing_stand own (closes l.client) l.initiator (receptions es))

module _ (s : State) (l : OpenLink) (b : IsBetweenCommands s) (open_ : s.link ≡ Some l) (far : List ℕ) where
  abbrev opened : IsOpen b.machines.air b.machines.ends b.machines.peers l
  opened = opened_at s l b open_

  abbrev pub world : WholeWorld
  world = with_numbers s.world far

  field_is : world.field ≡ record { lit = b.machines.air.lit; listeners = b.machines.air.listeners }
  field_is = ap (λ (t : State). t.world.field) b.is

  above : get_or world.fars opened.place None ≡ Some opened.end
  above =
      ap (λ (t : State). get_or t.world.fars opened.place None) b.is
      ∙ shown_there b.machines.air.listeners b.machines.ends opened.place opened.end (linked_in b.machines.air opened.place l.initiator opened.step) opened.above

  talks : TalksTo world opened.place l.initiator opened.end
  talks = talks_at b.machines.air world opened.place l.initiator opened.end opened.step field_is above

  gives_short : GivesShort opened.end
  gives_short = far_so GivesShort world.fars opened.place opened.end b.cuts.world.ends above

  cuts_well : 2 ≤ (device_end talks.device).most
  cuts_well = (all_among CutsReplies talks.alone.before talks.device talks.alone.behind (subst (AllByRecursion CutsReplies) talks.alone.split b.cuts.world.targets)).0

  -- By the numbers that are shown the same turns are made.
  pub far_goes : (asked : LinkAsking) (own : List ℕ) (es more : List Event) → AreTurns bench_air world es → EachDue (due_asked asked l own) [] es → AskedNameFits asked → CutsOn world
      → ShowsWell world (far_shown l.initiator.core.number (es ++ more)) es (HasEnded asked l own es)
  far_goes (Does call) own es more turns each fits replies =
      walk_shows world opened.place l.initiator opened.end talks gives_short.miu cuts_well es more by_client (next_of own (call_begins l.client call)) turns each (replies_fit es world replies)
      (λ before f x rest is. call_outs own l.client call l.initiator (receptions before) fits (link_cuts s l b open_).client)
  far_goes Closes own es more turns each fits replies =
      closing_shows world opened.place l.initiator opened.end talks gives_short.miu cuts_well es more own (closes l.client) turns each (replies_fit es world replies)
      (λ before f x rest is. closing_outs own l.client l.initiator (receptions before) (link_cuts s l b open_).client)
