-- What a command asks of its tag, and what its answer tells of the devices that are placed, is the same by devices that the dark leaves the same.
use Rattle.std.proofs.Common.{◌≡◌, ◌⊎◌, inl, inr, ℕ, List, Result, Ok, Err, ◌∙◌, ap, subst}
use Rattle.std.specs.List.{filter_map}
use Rattle.std.specs.Prelude.{◌≤◌, [], Some}
use Rattle.nfc_base.specs.Signal.{Signal}
use Rattle.nfc_base.specs.declared.event.Event.{Event}
use Rattle.nfc_base.specs.Trace.{turns}
use Rattle.nfc_base.specs.TagLinks.{TagState, TagStep, plain_state}
use Rattle.nfca_poll.specs.declared.fault.Picked.{Picked}
use Rattle.nfca_poll.specs.declared.fault.PollFault.{PollFault}
use Rattle.nfca_poll.specs.declared.fault.PollFault.TheVariants as faults
use Rattle.nfca_poll.specs.declared.inventory.Vcrowd.{Vcrowd}
use Rattle.nfc_base.specs.Prefix.{IsPrefix}
use Rattle.nfca_poll.specs.declared.inventory.Vcrowd.TheVariants.{Nobody}
use Rattle.nfca_poll.specs.Inventory.{tries, inventory_all}
use Rattle.nfcv_poll.specs.Tags.{FoundIf}
use Rattle.nfcv_poll.specs.Crowd.{CrowdV}
use Rattle.t3t_access.specs.declared.polling.Fcrowd.{Fcrowd}
use Rattle.tag_reader.specs.Asked.{IsAsked}
use Rattle.tag_writer.specs.Outcome.{IsOutcome}
use Rattle.tag_writer.specs.WriteAsked.{IsWriteAsked}
use Rattle.bench_script.specs.declared.command.DeviceId.{DeviceId}
use Rattle.bench_script.specs.declared.command.DeviceId.TheVariants.{A, V}
use Rattle.bench_script.specs.DeviceIds.{bytes_of}
use Rattle.bench_devices.specs.declared.device.Device.{Device}
use Rattle.bench_devices.specs.declared.polling.SeenKind.{SeenKind}
use Rattle.bench_devices.specs.declared.polling.SeenKind.TheVariants as seen
use Rattle.bench_devices.specs.Answering.{FindEnds, FindTells, HasPollCause, InventoryEnds, IsAbsent, IsNamed}
use Rattle.bench_devices.specs.Crowded.{v_if, crowd_of, others_of, inventory_of}
use Rattle.bench_devices.specs.Device.{device_commands, device_id}
use Rattle.bench_devices.specs.Keeping.{Kept, kept}
use Rattle.bench_devices.specs.Kinds.{IfRead}
use Rattle.bench_devices.specs.Placed.{device_with, OfPlaced}
use Rattle.bench_devices.specs.Sensing.{HasSensed, HasSought, IsThree, found_if, has_three, sensed}
use Rattle.bench_devices.specs.Threes.{ReadAsksThree, WriteAsksThree}
use Rattle.bench_devices.specs.Noise.{noisy_tries, MissedRound}
use Rattle.bench_devices.specs.Phases.{WriteEnd}
use Rattle.bench_world.specs.declared.entry.Answer.{Answer}
use Rattle.bench_world.specs.declared.entry.Answer.TheVariants as answers
use Rattle.bench_world.specs.Answering.{TagEnds, TagTells, TagsTell, TellsFault, TellsFound, ThreesTell, written_by}
use Rattle.bench_world.specs.Forging.{ForgeTells}
use Rattle.bench_world.specs.Linking.{LinkTells}
use Rattle.bench_world.specs.Rawing.{RawTells}
use Rattle.bench_world.specs.Reading.{ReadAsks, Tells, TellsOf}
use Rattle.bench_world.specs.Threes.{IfThree, ReadAsks3, TellsForm3, TellsEnd3, TellsRead3, TellsWrite3, ThreeEnds, ThreeTells, WriteAsks3}
use Rattle.bench_world.specs.Writing.{TellsWrite, WriteAsks}
use Rattle.bench_world.proofs.tags.Telling.{tells_as}
use Rattle.bench_world.proofs.alike.AlikeDevices.{SameDevice, SameDevices, same_kept, same_commands, same_tech, same_crowd, same_vs, same_fs, same_threes, same_with, of_same, each_same}

-- What is asked and told of one device is so of another that the dark leaves the same.
module _ (d e : Device) (same : SameDevice d e) where
  -- by what is kept of it, ...
  pub by_kept : (P : Kept → Type 0) → P (kept d) → P (kept e)
  by_kept P p = subst P (same_kept d e same) p

  -- ... and by its step on commands
  by_commands : (P : Kept → (TagState → Signal → TagStep) → Type 0) → P (kept d) (device_commands d) → P (kept e) (device_commands e)
  by_commands P p = subst (λ f. P (kept e) f) (same_commands d e same) (subst (λ k. P k (device_commands d)) (same_kept d e same) p)

  pub reads_same : (asked : List Signal) → ReadAsks d asked → ReadAsks e asked
  reads_same asked a = by_kept (λ k. IfRead k.fixed.kind (IsAsked k.fixed.how k.fixed.size k.store asked) (asked ≡ [])) a

  pub tells_same : (answer : Answer) → TellsOf d answer → TellsOf e answer
  tells_same answer t = by_kept (λ k. IfRead k.fixed.kind (Tells k.fixed.how k.fixed.size k.store answer) (answer ≡ answers.WrongKind)) t

  pub writes_same : (message : List ℕ) (asked : List Signal) → WriteAsks message d asked → WriteAsks message e asked
  writes_same message asked a =
      by_commands (λ k f. IfRead k.fixed.kind (IsWriteAsked k.fixed.how k.fixed.size f (plain_state k.store) message asked) (asked ≡ [])) a

  pub tells_write_same : (message : List ℕ) (answer : Answer) → TellsWrite message d answer → TellsWrite message e answer
  tells_write_same message answer t =
      by_commands
      (λ k f. IfRead k.fixed.kind ((r : WriteEnd) × IsOutcome k.fixed.how k.fixed.size f (plain_state k.store) message r × (written_by r ≡ Some answer)) (answer ≡ answers.WrongKind)) t

  pub reads3_same : (id : List ℕ) (asked : List Signal) → ReadAsks3 id d asked → ReadAsks3 id e asked
  reads3_same id asked a = by_kept (λ k. IfThree k.fixed.kind (ReadAsksThree id k.store asked) (asked ≡ [])) a

  pub tells_read3_same : (answer : Answer) → TellsRead3 d answer → TellsRead3 e answer
  tells_read3_same answer t = by_kept (λ k. IfThree k.fixed.kind (TellsForm3 k.store answer) ⊥) t

  pub writes3_same : (id message : List ℕ) (asked : List Signal) → WriteAsks3 id message d asked → WriteAsks3 id message e asked
  writes3_same id message asked a = by_kept (λ k. IfThree k.fixed.kind (WriteAsksThree id k.store k.fixed.locked message asked) (asked ≡ [])) a

  pub tells_write3_same : (message : List ℕ) (answer : Answer) → TellsWrite3 message d answer → TellsWrite3 message e answer
  tells_write3_same message answer t = by_kept (λ k. IfThree k.fixed.kind (TellsEnd3 message k.store k.fixed.locked answer) ⊥) t

  same_id : device_id d ≡ device_id e
  same_id = ap (λ (k : Kept). k.fixed.id) (same_kept d e same)

  named_same : (id : DeviceId) → IsNamed id e → IsNamed id d
  named_same (A id) n = (same_tech d e same ∙ n.0, same_id ∙ n.1)
  named_same (V id) n = (same_tech d e same ∙ n.0, same_id ∙ n.1)

  three_same : (id : List ℕ) → IsThree id e → IsThree id d
  three_same id n = (same_tech d e same ∙ n.0, same_id ∙ n.1)

-- What is told of all that are placed.
module _ (ds es : List Device) (same : SameDevices ds es) where
  absent_same : (id : DeviceId) → IsAbsent id ds → IsAbsent id es
  absent_same id absent = each_same (λ d. IsNamed id d → ⊥) (λ d e one none named. none (named_same d e one id named)) ds es same absent

  pub cause_same : (id : DeviceId) (r : Result SeenKind PollFault) (events : List Event) → HasPollCause id ds r events → HasPollCause id es r events
  cause_same id (Ok x) events c = tt
  cause_same id (Err faults.Nobody) events c = c
  cause_same id (Err faults.Disturbed) events c = c
  cause_same id (Err faults.FieldLost) events c = tt
  cause_same id (Err faults.Memory) events c = c
  cause_same (A id) (Err faults.NotFound) events (inl absent) = inl (absent_same (A id) absent)
  cause_same (A id) (Err faults.NotFound) events (inr missed) = inr missed
  cause_same (V id) (Err faults.NotFound) events (inl absent) = inl (absent_same (V id) absent)
  cause_same (V id) (Err faults.NotFound) events (inr missed) = inr missed
  cause_same id (Err faults.BadAnswer) events c = c

  -- A command of a tag tells the same.
  module _ (Says : Device → Answer → Type 0) (says : (d e : Device) → SameDevice d e → (a : Answer) → Says d a → Says e a) where
    of_placed : (id : List ℕ) (a : Answer) → OfPlaced (λ d. Says d a) (device_with id ds) → OfPlaced (λ d. Says d a) (device_with id es)
    of_placed id a t = of_same (λ d. Says d a) (λ d e one. says d e one a) (device_with id ds) (device_with id es) (same_with ds es same id) t

    pub tag_same : (id : DeviceId) (asked : List Signal) (events : List Event) (answer : Answer) → TagTells Says id ds asked events answer → TagTells Says id es asked events answer
    tag_same id asked events answer t = record {
      polled = t.polled;
      behind = t.behind;
      selected = t.selected;
      cause = cause_same id t.polled events t.cause;
      ends = ends_same t.polled t.ends;
      lost = t.lost;
      noisy = t.noisy;
    }
      where
        ends_same : (r : Result SeenKind PollFault) → TagEnds Says id ds asked r t.behind answer → TagEnds Says id es asked r t.behind answer
        ends_same (Ok kind) ends =
            tells_as (λ a. OfPlaced (λ d. Says d a) (device_with (bytes_of id) ds)) TellsFault (λ a. OfPlaced (λ d. Says d a) (device_with (bytes_of id) es)) TellsFault answer answer
            (of_placed (bytes_of id) answer) (λ e f. f) kind asked t.behind ends
        ends_same (Err e) ends = ends

    -- So does one of a Type 3 tag.
    pub three_tells_same : (id : List ℕ) (asked : List Signal) (events : List Event) (answer : Answer) → ThreeTells Says id ds asked events answer → ThreeTells Says id es asked events answer
    three_tells_same id asked events answer t =
        let there : has_three id ds ≡ has_three id es = same_threes ds es same id in
        record {
          heard = t.heard;
          behind = t.behind;
          sought = t.sought;
          cause = sought_same (found_if (has_three id es) t.heard) (subst (λ v. HasSought id ds (found_if v t.heard) events) there t.cause);
          ends = ends_same (found_if (has_three id es) t.heard) (subst (λ v. ThreeEnds Says id ds asked (found_if v t.heard) t.behind answer) there t.ends);
          lost = t.lost;
          noisy = t.noisy;
        }
      where
        sought_same : (r : Result (Unit {0}) PollFault) → HasSought id ds r events → HasSought id es r events
        sought_same (Ok x) c = tt
        sought_same (Err faults.Nobody) c = c
        sought_same (Err faults.Disturbed) c = c
        sought_same (Err faults.FieldLost) c = tt
        sought_same (Err faults.Memory) c = c
        sought_same (Err faults.NotFound) (inl none) = inl (each_same (λ d. IsThree id d → ⊥) (λ d e one no three. no (three_same d e one id three)) ds es same none)
        sought_same (Err faults.NotFound) (inr noisy) = inr noisy
        sought_same (Err faults.BadAnswer) c = c

        ends_same : (r : Result (Unit {0}) PollFault) → ThreeEnds Says id ds asked r t.behind answer → ThreeEnds Says id es asked r t.behind answer
        ends_same (Ok x) ends =
            tells_as (λ a. OfPlaced (λ d. Says d a) (device_with id ds)) TellsFault (λ a. OfPlaced (λ d. Says d a) (device_with id es)) TellsFault answer answer
            (of_placed id answer) (λ e f. f) seen.T5 asked t.behind ends
        ends_same (Err e) ends = ends

  -- A search for all devices, for Type 5 tags and for Type 3 tags.
  same_others : others_of ds ≡ others_of es
  same_others = ap inventory_of (same_vs ds es same)

  pub find_same : (events : List Event) (answer : Answer) → FindTells TellsFound ds events answer → FindTells TellsFound es events answer
  find_same events answer t = record { found = t.found; behind = t.behind; searched = t.searched; ends = ends_same t.found t.ends; lost = t.lost }
    where
      inventory_same : (cards : List Picked) (others : Result Vcrowd PollFault) → InventoryEnds TellsFound ds cards others events answer → InventoryEnds TellsFound es cards others events answer
      inventory_same cards (Ok others) ends = (subst (λ o. (others ≡ o) ⊎ ((others ≡ Nobody) × (tries ≤ noisy_tries inventory_all events))) same_others ends.0, ends.1)
      inventory_same cards (Err faults.Nobody) ends = ends
      inventory_same cards (Err faults.Disturbed) ends = ends
      inventory_same cards (Err faults.FieldLost) ends = ends
      inventory_same cards (Err faults.Memory) ends = ends
      inventory_same cards (Err faults.NotFound) ends = ends
      inventory_same cards (Err faults.BadAnswer) ends = ends

      ends_same : (r : Result (List Picked) PollFault) → FindEnds TellsFound ds r t.behind events answer → FindEnds TellsFound es r t.behind events answer
      ends_same (Ok cards) ends =
          let all : crowd_of ds ≡ crowd_of es = same_crowd ds es same in
          (subst (IsPrefix cards) all ends.0, subst (λ c. (cards ≡ c) ⊎ MissedRound events) all ends.1, ends.2, ends.3, inventory_same cards ends.2 ends.4)
      ends_same (Err faults.Nobody) ends = ends
      ends_same (Err faults.Disturbed) ends = ends
      ends_same (Err faults.FieldLost) ends = ends
      ends_same (Err faults.Memory) ends = ends
      ends_same (Err faults.NotFound) ends = ends
      ends_same (Err faults.BadAnswer) ends = ends

  pub tags_same : (events : List Event) (answer : Answer) → TagsTell ds events answer → TagsTell es events answer
  tags_same events answer t =
      let ids : filter_map v_if ds ≡ filter_map v_if es = same_vs ds es same in
      record {
        found = t.found;
        tells = record {
          told = t.tells.told;
          tags = subst (λ xs. FoundIf xs t.found (turns events)) ids t.tells.tags;
          crowd = subst (λ xs. CrowdV xs t.found (turns events)) ids t.tells.crowd;
          ascending = t.tells.ascending;
          causes = t.tells.causes;
          lost = t.tells.lost;
        };
        answered = t.answered;
      }

  pub threes_same : (events : List Event) (answer : Answer) → ThreesTell ds events answer → ThreesTell es events answer
  threes_same events answer t = record { found = t.found; told = t.told; heard = t.heard; cause = sensed_same t.found t.cause; lost = t.lost; answered = t.answered }
    where
      sensed_same : (r : Result Fcrowd PollFault) → HasSensed ds r events → HasSensed es r events
      sensed_same (Ok x) (inl is) = inl (is ∙ ap sensed (same_fs ds es same))
      sensed_same (Ok x) (inr noisy) = inr noisy
      sensed_same (Err faults.Nobody) c = c
      sensed_same (Err faults.Disturbed) c = c
      sensed_same (Err faults.FieldLost) c = tt
      sensed_same (Err faults.Memory) c = c
      sensed_same (Err faults.NotFound) c = c
      sensed_same (Err faults.BadAnswer) c = c

  -- Opening a link, and payloads and frames that are sent by hand.
  pub link_same : (id : DeviceId) (n : ℕ) (general : List ℕ) (events : List Event) (answer : Answer) → LinkTells id ds n general events answer → LinkTells id es n general events answer
  link_same id n general events answer t = record {
    polled = t.polled;
    behind = t.behind;
    selected = t.selected;
    cause = cause_same id t.polled events t.cause;
    ends = t.ends;
    lost = t.lost;
    noisy = t.noisy;
    calm = t.calm;
  }

  pub forge_same : (id : List ℕ) (payloads : List (List ℕ)) (events : List Event) (answer : Answer) → ForgeTells id ds payloads events answer → ForgeTells id es payloads events answer
  forge_same id payloads events answer t = record {
    polled = t.polled;
    behind = t.behind;
    selected = t.selected;
    cause = cause_same (A id) t.polled events t.cause;
    ends = t.ends;
    lost = t.lost;
    noisy = t.noisy;
    calm = t.calm;
  }

  pub raw_same : (id : DeviceId) (frames : List Signal) (events : List Event) (answer : Answer) → RawTells id ds frames events answer → RawTells id es frames events answer
  raw_same id frames events answer t = record {
    polled = t.polled;
    behind = t.behind;
    selected = t.selected;
    cause = cause_same id t.polled events t.cause;
    ends = t.ends;
    lost = t.lost;
    noisy = t.noisy;
  }
