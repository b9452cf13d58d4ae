-- What opening a link does where none is open.
use Rattle.std.proofs.Common.{◌≡◌, ℕ, ◌+◌, List, length, false, true, Some, None, Result, Ok, Err, refl, sym, ◌∙◌, ap, subst}
use Rattle.std.specs.Prelude.{get_or, slice_set, IfOk, IfErr, OnErr}
use Rattle.nfc_base.specs.declared.carrier.EndCause.{EndCause}
use Rattle.nfc_base.specs.declared.carrier.EndCause.TheVariants as causes
use Rattle.air_core.specs.Turn.{Air, moment}
use Rattle.arrayvec.specs.ArrayVec.{ArrayVec}
use Rattle.nfca_poll.specs.declared.fault.PollFault.{PollFault}
use Rattle.dep_link.specs.Initiator.{InitState}
use Rattle.llcp_link.specs.Answering.{Answers}
use Rattle.snep_core.specs.Server.{serving}
use Rattle.bench_script.specs.declared.command.Command.TheVariants.{Link}
use Rattle.bench_script.specs.declared.command.DeviceId.TheVariants.{A}
use Rattle.bench_devices.specs.declared.device.Device.{Device}
use Rattle.bench_devices.specs.Device.{is_tag}
use Rattle.bench_devices.specs.Opening.{Opens}
use Rattle.bench_devices.specs.Phases.{Selects, SelectsAt, SelectionCut}
use Rattle.bench_world.specs.declared.bench.ObeyFault.{ObeyFault}
use Rattle.bench_world.specs.declared.bench.ObeyFault.TheVariants as faults
use Rattle.bench_world.specs.declared.entry.Answer.{Answer as Told_answer}
use Rattle.bench_world.specs.declared.entry.Answer.TheVariants as answers
use Rattle.bench_world.specs.declared.entry.Loss.TheVariants as losses
use Rattle.bench_world.specs.Answering.{poll_answer}
use Rattle.bench_world.specs.World.{FarEnd}
use Rattle.bench_world.specs.Linking.{own_general, new_client}
use Rattle.bench_world.specs.Opened.{IsServed}
use Rattle.bench_world.specs.private.LinkedAt.{restarts, machines_at_start, NotOpened, moved_at, LinkLeft, OpensAt}
use Rattle.bench_world.specs.Legal.{MayLink, CutFront, no_joins}
use Rattle.bench_world.specs.Obeying.{Machines, state_at, under, HasPlaces, IsSettled, Obeyed}
use Rattle.bench_world.proofs.open_link.Unlinking.{upon}
use Rattle.bench_world.proofs.open_link.LinkObeyed.{missed_link, selection_cut_link, tag_link, ended_link, cut_link, opened_link, served_there}

module _ (m : Machines) (settled : IsSettled m) (unlinked : m.link ≡ None) (id : List ℕ) (miu rw : ℕ) (may : MayLink miu rw) where
  -- no link is open, which may be said of the machines
  none_open : under m.ends m.peers None m.air ≡ m
  none_open = ap (λ l. under m.ends m.peers l m.air) (sym unlinked)

  abbrev there : HasPlaces (under m.ends m.peers None m.air)
  there = record { ends = settled.places.ends; numbers = settled.places.numbers; served = settled.places.served; apart = settled.places.apart }

  in_this : (new : Machines) (answer : Told_answer) → Obeyed (under m.ends m.peers None m.air) new (Link id miu rw) answer → Obeyed m new (Link id miu rw) answer
  in_this new answer o = subst (λ x. Obeyed x new (Link id miu rw) answer) none_open o

  with_link_of : (new : Air Device) → under m.ends m.peers None new ≡ upon m new
  with_link_of new = ap (λ l. under m.ends m.peers l new) (sym unlinked)

  pub here_missed : (new : Air Device) (e : PollFault) (answer : Told_answer) → Selects (A id) (Err e) (moment m.air) (moment new) → poll_answer e ≡ Some answer
      → Obeyed m (upon m new) (Link id miu rw) answer
  here_missed new e answer s is =
      subst (λ x. Obeyed m x (Link id miu rw) answer) (with_link_of new)
      (in_this (under m.ends m.peers None new) answer (missed_link m.ends m.peers m.air id miu rw settled.idle there may new e answer s is))

  pub here_cut : (new : Air Device) → SelectionCut (A id) (moment m.air) (moment new) → CutFront no_joins (state_at m) (Link id miu rw) new.trace (state_at (upon m new))
  here_cut new part =
      subst (λ x. CutFront no_joins (state_at m) (Link id miu rw) new.trace (state_at x)) (with_link_of new)
      (subst (λ x. CutFront no_joins (state_at x) (Link id miu rw) new.trace (state_at (under m.ends m.peers None new))) none_open
      (selection_cut_link m.ends m.peers m.air id miu rw settled.idle there may new part))

  module _ (mid : Air Device) (place : ℕ) (s : SelectsAt (A id) place (moment m.air) (moment mid)) where
    pub here_tag : is_tag s.device ≡ true → Obeyed m (upon m mid) (Link id miu rw) answers.WrongKind
    here_tag tag =
        subst (λ x. Obeyed m x (Link id miu rw) answers.WrongKind) (with_link_of mid)
        (in_this (under m.ends m.peers None mid) answers.WrongKind (tag_link m.ends m.peers m.air id miu rw settled.idle there may mid place s tag))

    pub here_served : is_tag s.device ≡ false → IsServed (get_or m.peers.numbers place None) (get_or m.ends place None)
    here_served peer = served_there m.ends m.peers m.air id miu rw settled.idle there may mid place s peer

    module _ (peer : is_tag s.device ≡ false) (result : Result Told_answer ObeyFault) (now : Machines)
        (opens : (n : ℕ) (far : FarEnd) → get_or m.peers.numbers place None ≡ Some n → get_or m.ends place None ≡ Some far → OpensAt (upon m mid) now place miu rw n far result) where
      abbrev served : IsServed (get_or m.peers.numbers place None) (get_or m.ends place None)
      served = here_served peer

      abbrev o : OpensAt (upon m mid) now place miu rw served.peer served.end result
      o = opens served.peer served.end served.numbered served.stands

      abbrev asked : Opens restarts (Answers serving 0) mid served.end o.air o.after (own_general miu) place s.device o.came
      asked = o.asks place s.device s.stands peer

      abbrev left_none : Machines
      left_none = record { air = o.air; ends = slice_set m.ends place (Some o.after); peers = m.peers; link = None }

      moved_none : left_none ≡ moved_at (upon m mid) o.air place o.after
      moved_none = ap (λ l. let x : Machines = record { air = o.air; ends = slice_set m.ends place (Some o.after); peers = m.peers; link = l } in x) (sym unlinked)

      abbrev All : Result Told_answer ObeyFault → Type 0
      All r = IfOk r (λ a. Obeyed m now (Link id miu rw) a) × OnErr r (CutFront no_joins (state_at m) (Link id miu rw) now.air.trace (state_at now)) × IfErr r (λ e. e ≡ faults.Memory)

      cut_now : now ≡ moved_at (upon m mid) o.air place o.after → CutFront no_joins (state_at m) (Link id miu rw) now.air.trace (state_at now)
      cut_now is =
          subst (λ x. CutFront no_joins (state_at m) (Link id miu rw) x.air.trace (state_at x)) (moved_none ∙ sym is)
          (subst (λ x. CutFront no_joins (state_at x) (Link id miu rw) left_none.air.trace (state_at left_none)) none_open
          (cut_link m.ends m.peers m.air id miu rw settled.idle there may mid place s peer served.end o.after served.stands o.air o.came asked))

      ended_now : (cause : EndCause) (loss : _) → o.came ≡ Err cause → NotOpened cause (Ok (answers.LinkEnded loss)) → now ≡ moved_at (upon m mid) o.air place o.after
          → Obeyed m now (Link id miu rw) (answers.LinkEnded loss)
      ended_now cause loss came told is =
          subst (λ x. Obeyed m x (Link id miu rw) (answers.LinkEnded loss)) (moved_none ∙ sym is)
          (in_this left_none (answers.LinkEnded loss)
          (ended_link m.ends m.peers m.air id miu rw settled.idle there may mid place s peer served.end o.after served.stands o.air o.came asked cause loss came told))

      opened_now : (p : InitState × ArrayVec ℕ) → o.came ≡ Ok p → now ≡ machines_at_start (moved_at (upon m mid) o.air place o.after) served.peer (length served.end.service.accepted) p.0
          (new_client miu rw p.1.items)
          → Obeyed m now (Link id miu rw) (answers.Linked (length m.peers.links + 1))
      opened_now p came is =
          subst (λ x. Obeyed m x (Link id miu rw) (answers.Linked (length m.peers.links + 1))) (sym is)
          (in_this (machines_at_start (moved_at (upon m mid) o.air place o.after) served.peer (length served.end.service.accepted) p.0 (new_client miu rw p.1.items))
          (answers.Linked (length m.peers.links + 1))
          (opened_link m.ends m.peers m.air id miu rw settled.idle there may mid place s peer served.end o.after served.stands o.air o.came asked served.peer served.numbered p came))

      by_cases : (came : Result (InitState × ArrayVec ℕ) EndCause) (r : Result Told_answer ObeyFault) → o.came ≡ came
          → LinkLeft (moved_at (upon m mid) o.air place o.after) miu rw served.peer (length served.end.service.accepted) came r now → All r
      by_cases (Ok p) (Ok a) came l = (subst (λ x. Obeyed m now (Link id miu rw) x) (sym l.0) (opened_now p came l.1), tt, tt)
      by_cases (Ok p) (Err e) came l = (tt, cut_now l.1, l.0)
      by_cases (Err causes.FieldLost) r came l = subst All (sym l.0) (ended_now causes.FieldLost losses.FieldLost came refl l.1, tt, tt)
      by_cases (Err causes.SixBad) r came l = subst All (sym l.0) (ended_now causes.SixBad losses.SixBad came refl l.1, tt, tt)
      by_cases (Err causes.Protocol) r came l = absurd l.0
      by_cases (Err causes.Memory) r came l = subst All (sym l.0) (tt, cut_now l.1, refl)

      pub here_opened : All result
      here_opened = by_cases o.came result refl o.left
