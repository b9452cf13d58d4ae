-- A search for every Type 5 tag: what it asked of the bench's devices, and what it tells of them.
use Rattle.std.proofs.Common.{◌≡◌, ℕ, ◌<◌, List, map, length, drop, filter_map, Result, Err, refl, sym, ◌∙◌, ap, subst}
use Rattle.nfc_base.specs.Trace.{breaks, turns}
use Rattle.air_core.specs.Conversation.{Over}
use Rattle.air_core.specs.Turn.{Air, moment}
use Rattle.nfca_poll.specs.declared.fault.PollFault.{PollFault}
use Rattle.nfca_poll.specs.declared.fault.PollFault.TheVariants as faults
use Rattle.nfca_poll.specs.ByHeard.{turns_since}
use Rattle.nfca_poll.specs.Crowd.{Each}
use Rattle.nfca_poll.specs.Enquiry.{Progress, Reaches, Loses, progress, due_of, answer_of, or_memory, Enquires}
use Rattle.t5t_tag.specs.Store.{id_size}
use Rattle.nfcv_poll.specs.declared.search.Stage.{Stage}
use Rattle.nfcv_poll.specs.declared.search.Stage.TheVariants as stages
use Rattle.nfcv_poll.specs.Finding.{AreAscending, HasCauses}
use Rattle.nfcv_poll.specs.Search.{Course, Begins, Runs, over_at, asked_for, stage_request, finding_all}
use Rattle.nfcv_poll.specs.Tags.{FindsTags, FoundIf, tag_ids}
use Rattle.nfcv_poll.specs.Crowd.{AreCrowd, CrowdV, SearchesCrowd}
use Rattle.bench_devices.specs.declared.device.Device.{Device}
use Rattle.bench_devices.specs.Crowded.{v_if}
use Rattle.bench_devices.specs.Crowding.{crowding, Crowds}
use Rattle.bench_devices.specs.Device.{air, devices}
use Rattle.bench_devices.specs.Keeping.{kept, AreTame, NoStore}
use Rattle.bench_devices.specs.Phases.{AskedPart}
use Rattle.bench_devices.proofs.finding.CrowdSteps.{of_nfc_v, crowd_harmless, tag_of, lit_of, steps_as_tags, ids_same, ids_whole, are_crowd}
use Rattle.bench_devices.proofs.turns.QuietPolling.{PollsQuietly, other_hands_none, quietly}
use Rattle.bench_devices.proofs.finding.SelectingAir.{events_are}
use Rattle.bench_devices.proofs.finding.SelectingKept.{going_keeps}

-- one that told something, but for want of memory, is over
over_stage : (found : List (List ℕ)) (t : Stage) (r : Result (List (List ℕ)) PollFault) → (r ≡ Err faults.Memory → ⊥) → r ≡ or_memory (over_at found t) → asked_for (stage_request t) ≡ Over
over_stage found (stages.Slot m slot) r fed e = absurd (fed e)
over_stage found (stages.Hush id next) r fed e = absurd (fed e)
over_stage found (stages.WhoIsLeft asked) r fed e = absurd (fed e)
over_stage found stages.Over r fed e = refl
over_stage found (stages.Fails fault) r fed e = refl

over_told : (p : Progress Course) (r : Result (List (List ℕ)) PollFault) → (r ≡ Err faults.Memory → ⊥) → r ≡ answer_of finding_all p → due_of finding_all p ≡ Over
over_told (Reaches Begins) r fed e = absurd (fed e)
over_told (Reaches (Runs s)) r fed e = over_stage s.found s.stage r fed e
over_told Loses r fed e = refl

module _ (old new : Air Device) (r : Result (List (List ℕ)) PollFault) (tame : AreTame (map kept old.listeners)) (enquires : Enquires finding_all devices old r new)
    (found : FindsTags devices old r new) (crowd : SearchesCrowd devices old r new) (ascending : AreAscending r)
    (causes : HasCauses (turns_since old new) r) (lost : (r ≡ Err faults.FieldLost → 0 < breaks (drop (length old.trace) new.trace))
    × (0 < breaks (drop (length old.trace) new.trace) → r ≡ Err faults.FieldLost)) where
  quiet : PollsQuietly finding_all old r new
  quiet = quietly finding_all (λ ns f e. other_hands_none f (of_nfc_v ns f e)) old new r enquires

  same : map kept new.listeners ≡ map kept old.listeners
  same = going_keeps crowding (moment old) (moment new) quiet.notes crowd_harmless quiet.going

  events_here : drop (length old.trace) new.trace ≡ quiet.going.events
  events_here = events_are air (moment old) (moment new) quiet.going.events quiet.going.moment

  whole : Each (λ i. length i ≡ id_size) (tag_ids devices tag_of old.listeners)
  whole = subst (Each (λ i. length i ≡ id_size)) (sym (ids_same old.listeners)) (ids_whole old.listeners tame.sound)

  tags : FoundIf (filter_map v_if old.listeners) r (turns_since old new)
  tags = subst (λ ids. FoundIf ids r (turns_since old new)) (ids_same old.listeners) (found tag_of lit_of steps_as_tags whole)

  crowded : CrowdV (filter_map v_if old.listeners) r (turns_since old new)
  crowded =
      subst (λ ids. CrowdV ids r (turns_since old new)) (ids_same old.listeners)
      (crowd tag_of lit_of steps_as_tags (subst AreCrowd (sym (ids_same old.listeners)) (are_crowd old.listeners tame)))

  -- want of memory cut it off
  pub crowd_cut : AskedPart NoStore crowding (moment old) (moment new)
  crowd_cut = record { notes = quiet.notes; going = quiet.going; same = same }

  -- it was over
  pub crowd_found : (r ≡ Err faults.Memory → ⊥) → Crowds (moment old) (moment new) r
  crowd_found fed = record {
    asked = record {
      notes = quiet.notes;
      going = quiet.going;
      over = over_told (progress finding_all Begins quiet.notes) r fed quiet.comes;
      same = same;
    };
    tells = record {
      told = quiet.comes ∙ ap (λ ns. answer_of finding_all (progress finding_all Begins ns)) (sym quiet.going.known);
      tags = subst (λ es. FoundIf (filter_map v_if old.listeners) r (turns es)) events_here tags;
      crowd = subst (λ es. CrowdV (filter_map v_if old.listeners) r (turns es)) events_here crowded;
      ascending = ascending;
      causes = subst (λ es. HasCauses (turns es) r) events_here causes;
      lost = (
        (λ e. subst (λ es. 0 < breaks es) events_here (lost.0 e)),
        (λ h. lost.1 (subst (λ es. 0 < breaks es) (sym events_here) h)),
      );
    };
  }
