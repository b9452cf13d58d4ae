-- What a sending of payloads that were written by hand leaves is alike by the numbers that its events show.
use Rattle.std.proofs.Common.{◌≡◌, ℕ, Bool, true, false, List, [], ◌++◌, Option, Some, None, refl, sym, ◌∙◌, ap}
use Rattle.std.specs.Prelude.{map}
use Rattle.std.specs.List.{AllByRecursion}
use Rattle.nfc_base.specs.declared.event.Event.{Event}
use Rattle.air_core.specs.Conversation.{AreTurns, EachDue, FatesFrom, replay}
use Rattle.far_air.specs.FarEnds.{rests}
use Rattle.far_air.specs.FarWorld.{far_dark}
use Rattle.peer_air.specs.PeerFars.{peer_ends}
use Rattle.link_numbers.proofs.far.FarShown.{SameDark}
use Rattle.bench_script.specs.declared.command.Command.{Command}
use Rattle.bench_script.specs.declared.command.Command.TheVariants.{Forge}
use Rattle.bench_script.specs.declared.command.DeviceId.TheVariants.{A}
use Rattle.bench_devices.specs.Device.{device_linked, devices}
use Rattle.bench_world.specs.declared.entry.Answer.{Answer}
use Rattle.bench_world.specs.Alike.{Alike}
use Rattle.bench_world.specs.Forging.{forging, opens_link}
use Rattle.bench_world.specs.Legal.{Given, IsPayload, Joins, State, world_at_start, peers_forged, state_after, unlinked, world_after}
use Rattle.bench_world.specs.Links.{accepted_at, with_link, with_link_if}
use Rattle.bench_world.specs.Peers.{Peers, placed_under}
use Rattle.bench_world.specs.Showing.{IsBetweenCommands}
use Rattle.bench_world.specs.ShownForged.{forged_shown}
use Rattle.bench_world.specs.World.{FarEnd, WholeWorld, bench_air}
use Rattle.bench_world.proofs.showing.ShowingAlike.{all_accept}
use Rattle.bench_world.proofs.showing.ShowingForge.{ForgesWell, forge_shows}

-- a link that began and ended has the same range, by far ends of which the same stays
accept_same : (n : ℕ) (p : Peers) (xs ys : List (Option FarEnd)) → map (rests peer_ends) xs ≡ map (rests peer_ends) ys → accepted_at n p xs ≡ accepted_at n p ys
accept_same n p xs ys e =
    sym (all_accept n p.numbers xs) ∙ ap (λ os. accepted_at n p os) e ∙ all_accept n p.numbers ys

within_same : (o : Option ℕ) (first xs ys : List (Option FarEnd)) (p : Peers) → map (rests peer_ends) xs ≡ map (rests peer_ends) ys → with_link_if o first xs p ≡ with_link_if o first ys p
within_same None first xs ys p e = refl
within_same (Some n) first xs ys p e = ap (λ k. with_link (record { peer = n; start = accepted_at n p first; end = Some k }) p) (accept_same n p xs ys e)

forged_same : (v : Bool) (s : State) (id : List ℕ) (xs ys : List (Option FarEnd)) → map (rests peer_ends) xs ≡ map (rests peer_ends) ys → peers_forged v s (A id) xs ≡ peers_forged v s (A id) ys
forged_same false s id xs ys e = refl
forged_same true s id xs ys e = within_same (placed_under id s.world.field.listeners s.peers.numbers) s.world.fars xs ys (unlinked s).peers e

module _ (s : State) (b : IsBetweenCommands s) (g : Given) (id : List ℕ) (payloads : List (List ℕ)) (may : AllByRecursion IsPayload payloads) (es : List Event) (a : Answer) where
  abbrev c : Command
  c = Forge id payloads

  abbrev shown : Joins
  shown = forged_shown (es ++ [])

  abbrev behind : Joins → WholeWorld
  behind joins = replay bench_air (world_at_start s joins c) es

  abbrev after : Joins → State
  after joins = state_after s joins c es (Some a)

  pub forged_alike : AreTurns bench_air (world_at_start s g.joins c) es → EachDue (forging id payloads) [] es → FatesFrom s.queue es → Alike (after g.joins) (after shown)
  forged_alike turns each fates =
      let k : ForgesWell s b g id payloads may shown.far es = forge_shows s b g id payloads may es [] turns each fates in
      let dark : SameDark devices device_linked peer_ends (behind g.joins) (behind shown) = k.alike in
      let stays : far_dark devices device_linked peer_ends (world_after s g.joins c es) ≡ far_dark devices device_linked peer_ends (world_after s shown c es) = sym dark.dark in
      record {
        link = refl;
        lit = sym dark.lit;
        queue = refl;
        peers = forged_same (opens_link id payloads es) s id (behind g.joins).fars (behind shown).fars (ap (λ (w : WholeWorld). w.fars) stays);
        stays = stays;
        whole = λ h. absurd cc;
      }
