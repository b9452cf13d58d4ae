-- The open link was taken out of the machines for a command, with its peer's end, and put back: what becomes of the command then, by what
-- its call on the field says.
use Rattle.std.proofs.Common.{◌≡◌, ℕ, zero, suc, List, [], ◌∷◌, Option, Some, None, refl, sym, ◌∙◌, ap, subst}
use Rattle.std.specs.Prelude.{get_or, slice_set}
use Rattle.nfc_base.specs.Choosing.{Choosing}
use Rattle.air_core.specs.Turn.{Air}
use Rattle.dep_link.specs.Initiator.{InitState}
use Rattle.snep_core.specs.Accord.{Accords}
use Rattle.snep_core.specs.declared.slot.Slot.{Slot}
use Rattle.snep_core.specs.Talk.{EndState}
use Rattle.bench_script.specs.declared.command.Command.{Command}
use Rattle.bench_devices.specs.declared.device.Device.{Device}
use Rattle.bench_world.specs.declared.entry.Answer.{Answer}
use Rattle.bench_world.specs.World.{FarEnd}
use Rattle.bench_world.specs.Legal.{Joins}
use Rattle.bench_world.specs.Links.{OpenLink, accepted_by, with_last_ended}
use Rattle.bench_world.specs.private.LinkTaken.{TakesLink, put_back, put_down}
use Rattle.bench_world.specs.Obeying.{Machines, IsCutOffBy, IsSettled, ObeyedBy, under}
use Rattle.bench_world.proofs.tags.Fronts.{Ends as FarEnds}
use Rattle.bench_world.proofs.open_link.OnLink.{one_place, opened}
use Rattle.bench_world.proofs.open_link.Restarted.{set_there}

set_twice : (os : FarEnds) (n : ℕ) (x y : Option FarEnd) → slice_set (slice_set os n x) n y ≡ slice_set os n y
set_twice [] n x y = refl
set_twice (o ∷ os) zero x y = refl
set_twice (o ∷ os) (suc n) x y = ap (λ xs. o ∷ xs) (set_twice os n x y)

module _ (old mid : Machines) (settled : IsSettled old) (q : ℕ) (l : OpenLink) (far : FarEnd) (t : TakesLink old q l far mid) where
  abbrev pub so : IsSettled (under old.ends old.peers (Some l) old.air)
  so = subst (λ (o : Option OpenLink). IsSettled (under old.ends old.peers o old.air)) t.linked settled

  abbrev pub spot : ℕ
  spot = (opened old.air old.ends old.peers l so).place

  abbrev pub its : FarEnd
  its = (opened old.air old.ends old.peers l so).end

  place_is : q ≡ spot
  place_is = one_place l.peer old.peers.numbers spot q its (opened old.air old.ends old.peers l so).number t.number

  pub far_is : far ≡ its
  far_is =
      let same : Some far ≡ Some its = sym t.above ∙ ap (λ n. get_or old.ends n None) place_is ∙ (opened old.air old.ends old.peers l so).above in cc

  pub accords : Accords l.client far
  accords = subst (Accords l.client) (sym far_is) (opened old.air old.ends old.peers l so).accords

  module _ (joins : Joins) (b : Air Device) (j : InitState) (after : Choosing FarEnd) (client : EndState) (slots : List Slot) where
    -- the peer's end with the numbers that are left to it
    abbrev pub counted : FarEnd → Choosing FarEnd
    counted f = record { end = f; numbers = joins.far }

    abbrev pub link : OpenLink
    link = record { peer = l.peer; initiator = j; client = client; slots = slots }

    abbrev pub Before : Machines
    Before = under old.ends old.peers (Some l) old.air

    abbrev pub OpenAt : ℕ → Machines
    OpenAt n = under (slice_set old.ends n (Some after.end)) old.peers (Some link) b

    abbrev pub GoneAt : ℕ → Machines
    GoneAt n = under (slice_set old.ends n (Some after.end)) (with_last_ended (accepted_by (get_or (slice_set old.ends n (Some after.end)) n None)) old.peers) None b

    -- the machines behind the call, before the end is put back
    abbrev pub called : Machines
    called = under mid.ends mid.peers mid.link b

    ends_again : slice_set mid.ends q (Some after.end) ≡ slice_set old.ends q (Some after.end)
    ends_again = ap (λ (m : Machines). slice_set m.ends q (Some after.end)) t.left ∙ set_twice old.ends q None (Some after.end)

    back_is : put_back called q after.end link ≡ OpenAt q
    back_is =
        ap (λ es. under es mid.peers (Some link) b) ends_again ∙ ap (λ (m : Machines). under (slice_set old.ends q (Some after.end)) m.peers (Some link) b) t.left

    down_is : put_down called q after.end ≡ GoneAt q
    down_is =
        let there : get_or (slice_set old.ends q (Some after.end)) q None ≡ Some after.end = set_there old.ends q far after.end t.above in
        ap (λ es. under es (with_last_ended (accepted_by (Some after.end)) mid.peers) mid.link b) ends_again
        ∙ ap (λ (m : Machines). under (slice_set old.ends q (Some after.end)) (with_last_ended (accepted_by (Some after.end)) m.peers) m.link b) t.left
        ∙ ap (λ o. under (slice_set old.ends q (Some after.end)) (with_last_ended (accepted_by o) old.peers) None b) (sym there)

    module _ (c : Command) (new : Machines) where
      pub open_so : (answer : Answer) → new ≡ put_back called q after.end link → ObeyedBy joins Before (OpenAt spot) c answer → ObeyedBy joins old new c answer
      open_so answer left o =
          subst (λ y. ObeyedBy joins old y c answer) (sym (left ∙ back_is))
          (subst (λ n. ObeyedBy joins old (OpenAt n) c answer) (sym place_is)
          (subst (λ (x : Option OpenLink). ObeyedBy joins (under old.ends old.peers x old.air) (OpenAt spot) c answer) (sym t.linked) o))

      pub gone_so : (answer : Answer) → new ≡ put_down called q after.end → ObeyedBy joins Before (GoneAt spot) c answer → ObeyedBy joins old new c answer
      gone_so answer left o =
          subst (λ y. ObeyedBy joins old y c answer) (sym (left ∙ down_is))
          (subst (λ n. ObeyedBy joins old (GoneAt n) c answer) (sym place_is)
          (subst (λ (x : Option OpenLink). ObeyedBy joins (under old.ends old.peers x old.air) (GoneAt spot) c answer) (sym t.linked) o))

      pub short_so : new ≡ put_down called q after.end → IsCutOffBy joins Before (GoneAt spot) c → IsCutOffBy joins old new c
      short_so left o =
          subst (λ y. IsCutOffBy joins old y c) (sym (left ∙ down_is))
          (subst (λ n. IsCutOffBy joins old (GoneAt n) c) (sym place_is)
          (subst (λ (x : Option OpenLink). IsCutOffBy joins (under old.ends old.peers x old.air) (GoneAt spot) c) (sym t.linked) o))
