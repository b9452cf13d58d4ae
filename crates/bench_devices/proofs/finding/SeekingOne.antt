-- Selecting a Type 3 tag from a reset on: what it asks of the bench's devices, and what it comes to.
use Rattle.std.proofs.Common.{◌≡◌, ◌↔◌, ◌⊎◌, inl, inr, ℕ, ◌+◌, ◌<◌, ◌≤◌, nat_lt, List, [], ◌∷◌, ◌++◌, map, length, drop, filter_map, Bool, true, false, if◌then◌else◌, Result, Ok, Err, refl, sym, ◌∙◌}
use Rattle.std.proofs.Common.{ap, subst}
use Rattle.std.specs.List.{AllByRecursion}
use Rattle.nfc_base.specs.declared.frame.Tech.TheVariants as techs
use Rattle.nfc_base.specs.declared.event.Event.{Event}
use Rattle.nfc_base.specs.declared.event.Event.TheVariants.{Reset}
use Rattle.nfc_base.specs.declared.event.Heard.{Heard}
use Rattle.nfc_base.specs.declared.event.Heard.TheVariants.{Whole, Collided, Damaged, Silent}
use Rattle.nfc_base.specs.Signal.{Signal}
use Rattle.nfc_base.specs.Trace.{breaks, noise}
use Rattle.air_core.specs.Joint.{Joint, Nothing, Single, Clashing, joint}
use Rattle.air_core.specs.Turn.{Air, moment}
use Rattle.air_core.specs.World.{World}
use Rattle.air_core.specs.Conversation.{Note, Lit, Got, Lost, Over, LightUp, Asks, Moment, with_events}
use Rattle.air_core.proofs.Following.{over_is_no_request, over_is_no_light}
use Rattle.nfca_poll.specs.declared.fault.PollFault.{PollFault}
use Rattle.nfca_poll.specs.declared.fault.PollFault.TheVariants as faults
use Rattle.nfca_poll.specs.ByHeard.{turns_since}
use Rattle.nfca_poll.specs.Crowd.{Each}
use Rattle.nfca_poll.specs.Enquiry.{Enquiry, Progress, Reaches, Loses, progress, due_of, enquiring, or_memory, answer_of, LosesByBreak}
use Rattle.nfca_poll.specs.Inventory.{Inventory, Tries, Told, tries, asks_for, pick_ended, IsSteady}
use Rattle.t3t_access.specs.Polling.{sensf_req, is_sensf_res, is_of, picking_f, pick_step, TellsPickedF, IsNotOf, MissesF}
use Rattle.bench_devices.specs.declared.device.Device.{Device}
use Rattle.bench_devices.specs.declared.device.Device.TheVariants.{T2, T4, Peer, T5, T3}
use Rattle.bench_devices.specs.declared.polling.Selection.{Selection}
use Rattle.bench_devices.specs.declared.polling.Selection.TheVariants.{Place, Missed}
use Rattle.bench_devices.specs.Device.{air, devices, device_tech, device_id, device_selected}
use Rattle.bench_devices.specs.Keeping.{kept, AreSound, AreTame}
use Rattle.bench_devices.specs.Phases.{IsUnasked}
use Rattle.bench_devices.specs.Sensing.{f_if, has_three, found_if, AreNoisy, HasSought, IsNoThree, IsThreeAt, FindsThree, Seeks, SeeksAt, SeeksTo, SeekingCut}
use Rattle.bench_devices.proofs.finding.Following.{HasEnded, Closes}
use Rattle.bench_devices.proofs.finding.FromReset.{asked, cut, heard, lost_by, noisy, told, turns_are, whole, same_kept, listeners_are, world_lit}
use Rattle.bench_devices.proofs.finding.Inventoried.{all_of, fewer, whole_silent}
use Rattle.bench_devices.proofs.turns.QuietPolling.{PollsQuietly}
use Rattle.bench_devices.proofs.finding.SelectingPlaces.{sound_amid, others_before, others_behind}
use Rattle.bench_devices.proofs.finding.SelectingV.{relit, IsRelit, are_relit, relit_front, relit_back, relit_aside, MayCome, ended_if}
use Rattle.bench_devices.proofs.finding.Sensed.{IsSensed, all_answer, answers_in, own_ids, sensed_well, steady_sensed, tells_of, none_of, no_three, none_three, three_amid, three_relit}
use Rattle.bench_devices.proofs.finding.SensingAll.{asks_of, lights_none}
use Rattle.bench_devices.proofs.finding.Unmoved.{AllHeard}

may_tries : (v : Bool) → MayCome (or_memory (ended_if v))
may_tries true = tt
may_tries false = tt

more_tries : (n : ℕ) (v w : Bool) → nat_lt n tries ≡ v → nat_lt (n + 1) tries ≡ w → HasEnded (ended_if v) → HasEnded (ended_if w)
more_tries n true w p q h = absurd h
more_tries n false false p q h = tt
more_tries n false true p q h = absurd (fewer n p q)

silent_tries : (v : Bool) → HasEnded (ended_if v) → (if v then Asks sensf_req else Over) ≡ Over
silent_tries true h = absurd h
silent_tries false h = refl

seeking_silent : (s : Inventory (Unit {0})) → HasEnded (pick_ended s) → asks_for sensf_req s ≡ Over
seeking_silent (Tries n d) h = silent_tries (nat_lt n tries) h
seeking_silent (Told r) h = refl

module _ (id : List ℕ) where
  abbrev call : Enquiry (Inventory (Unit {0})) (Unit {0})
  call = picking_f id

  seeking_heard : (s : Inventory (Unit {0})) (g : Heard) → HasEnded (pick_ended s) → HasEnded (pick_ended (pick_step id s g))
  seeking_heard (Tries n d) (Whole g) h = tt
  seeking_heard (Tries n d) (Collided g) h = tt
  seeking_heard (Tries n d) Damaged h = tt
  seeking_heard (Tries n d) Silent h = more_tries n (nat_lt n tries) (nat_lt (n + 1) tries) refl refl h
  seeking_heard (Told r) g h = tt

  pub seeking_closes : Closes call
  seeking_closes = record { silent = seeking_silent; lit = λ s h. h; heard = seeking_heard }

  due_one : (p : Progress (Inventory (Unit {0}))) (f : Signal) → due_of call p ≡ Asks f → f ≡ sensf_req
  due_one (Reaches s) f e = asks_of sensf_req f s e
  due_one Loses f e = absurd (over_is_no_request f e)

  due_no_light : (p : Progress (Inventory (Unit {0}))) → due_of call p ≡ LightUp → ⊥
  due_no_light (Reaches s) e = lights_none sensf_req s e
  due_no_light Loses e = over_is_no_light e

  pub seeks_one : (ns : List Note) (f : Signal) → enquiring call ns ≡ Asks f → f ≡ sensf_req
  seeks_one ns f e = due_one (progress call (Tries 0 false) ns) f e

  pub seeks_no_light : (ns : List Note) → enquiring call ns ≡ LightUp → ⊥
  seeks_no_light ns e = due_no_light (progress call (Tries 0 false) ns) e

  told_may : (q : Result (Unit {0}) PollFault) (ns : List Note) → MayCome q → MayCome (answer_of call (progress call (Told q) ns))
  told_may q [] m = m
  told_may q (Lit ∷ ns) m = told_may q ns m
  told_may q (Got h ∷ ns) m = told_may q ns m
  told_may q (Lost ∷ ns) m = tt

  res_may : (v w : Bool) (ns : List Note) → v ≡ true → MayCome (answer_of call (progress call (Told (if v then (if w then Ok tt else Err faults.NotFound) else Err faults.BadAnswer)) ns))
  res_may true true ns e = told_may (Ok tt) ns tt
  res_may true false ns e = told_may (Err faults.NotFound) ns tt
  res_may false w ns e = absurd cc

  tries_may : (j : Joint) → IsSensed j → (ns : List Note) (n : ℕ) (d : Bool) → AllHeard j ns → MayCome (answer_of call (progress call (Tries n d) ns))
  tries_may j p [] n d h = may_tries (nat_lt n tries)
  tries_may j p (Lit ∷ ns) n d h = absurd h
  tries_may Nothing p (Got (Whole k) ∷ ns) n d h = absurd (whole_silent k h.0)
  tries_may (Single g) p (Got (Whole k) ∷ ns) n d h = res_may (is_sensf_res k) (is_of id k) ns (ap is_sensf_res h.0 ∙ p)
  tries_may (Clashing g) p (Got (Whole k) ∷ ns) n d h = absurd h.0
  tries_may j p (Got (Collided k) ∷ ns) n d h = told_may (Ok tt) ns tt
  tries_may j p (Got Damaged ∷ ns) n d h = told_may (Ok tt) ns tt
  tries_may j p (Got Silent ∷ ns) n d h = tries_may j p ns (n + 1) d h.1
  tries_may j p (Lost ∷ ns) n d h = tt

-- a fault is told whether the tag is placed or not
found_err : (v : Bool) (e : PollFault) → found_if v (Err e) ≡ Err e
found_err true e = refl
found_err false e = refl

found_lost : (v : Bool) (q : Result (Unit {0}) PollFault) → found_if v q ≡ Err faults.FieldLost → q ≡ Err faults.FieldLost
found_lost true q e = e
found_lost false (Ok x) e = absurd cc
found_lost false (Err f) e = e

-- a Type 3 tag that a reset left is selected, and nothing was asked of it
selected_three : (d : Device) → device_tech d ≡ techs.F → IsRelit d → device_selected d ≡ true
selected_three (T2 d) f h = absurd cc
selected_three (T4 d) f h = absurd cc
selected_three (Peer d) f h = absurd cc
selected_three (T5 p) f h = absurd cc
selected_three (T3 p) f h = h

unasked_three : (d : Device) → device_tech d ≡ techs.F → IsUnasked d
unasked_three (T2 d) f = tt
unasked_three (T4 d) f = absurd cc
unasked_three (Peer d) f = absurd cc
unasked_three (T5 p) f = tt
unasked_three (T3 p) f = tt

module _ (id : List ℕ) (old mid new : Air Device) (q : Result (Unit {0}) PollFault) (tame : AreTame (map kept old.listeners)) (reset : moment mid ≡ with_events air (moment old) (Reset ∷ []))
    (polls : PollsQuietly (picking_f id) mid q new) where
  well_answered : IsSensed (joint (answers_in old.listeners))
  well_answered =
      subst (λ gs. IsSensed (joint gs)) (sym (all_answer old.listeners))
      (sensed_well (joint (map _ (filter_map f_if old.listeners))) _ (tells_of (filter_map f_if old.listeners) (own_ids old.listeners tame.sound)))

  may : MayCome q
  may =
      subst MayCome (sym polls.comes)
      (tries_may id (joint (answers_in old.listeners)) well_answered polls.notes 0 false
      (heard (picking_f id) (seeking_closes id) (seeks_one id) (seeks_no_light id) old mid new q reset polls))

  pub seeking_cut : SeekingCut id (moment old) (moment new)
  seeking_cut = cut (picking_f id) (seeking_closes id) (seeks_one id) (seeks_no_light id) old mid new q reset polls

  module _ (lost : LosesByBreak mid q new) (by_turns : TellsPickedF id (turns_since mid new) q) (why : Each (IsSteady devices sensf_req) mid.listeners → MissesF devices id mid q new) where
    abbrev events : List Event
    events = (whole (picking_f id) (seeking_closes id) (seeks_one id) (seeks_no_light id) old mid new q reset polls).events

    relit_here : mid.listeners ≡ map relit old.listeners
    relit_here = ap (λ (m : Moment (World Device)). m.world.listeners) reset

    missed : Each (IsNotOf devices id) mid.listeners ⊎ (tries ≤ noise (drop (length mid.trace) new.trace)) → IsNoThree id old.listeners ⊎ AreNoisy events
    missed (inl n) = inl (none_of id old.listeners tame.sound (subst (Each (IsNotOf devices id)) relit_here n))
    missed (inr n) = inr (noisy (picking_f id) (seeking_closes id) (seeks_one id) (seeks_no_light id) old mid new q reset polls n)

    cause : (p : Result (Unit {0}) PollFault) (v : Bool) → q ≡ p → has_three id old.listeners ≡ v → MayCome p → (p ≡ Err faults.Memory → ⊥) → HasSought id old.listeners (found_if v p) events
    cause (Ok x) true e h m n = tt
    cause (Ok x) false e h m n = inl (no_three id old.listeners h)
    cause (Err faults.Nobody) v e h m n = absurd m
    cause (Err faults.Disturbed) v e h m n = absurd m
    cause (Err faults.FieldLost) true e h m n = tt
    cause (Err faults.FieldLost) false e h m n = tt
    cause (Err faults.Memory) v e h m n = absurd (n refl)
    cause (Err faults.NotFound) true e h m n = missed ((why (all_of (IsSteady devices sensf_req) steady_sensed mid.listeners)).not_found e)
    cause (Err faults.NotFound) false e h m n = missed ((why (all_of (IsSteady devices sensf_req) steady_sensed mid.listeners)).not_found e)
    cause (Err faults.BadAnswer) v e h m n = absurd m

    lost_so : (q ≡ Err faults.FieldLost) ↔ (0 < breaks events)
    lost_so = lost_by (picking_f id) (seeking_closes id) (seeks_one id) (seeks_no_light id) old mid new q reset polls lost

    abbrev placed : Bool
    placed = has_three id old.listeners

    abbrev pub sought : Result (Unit {0}) PollFault
    sought = found_if placed q

    pub seeks : (q ≡ Err faults.Memory → ⊥) → Seeks id sought (moment old) (moment new)
    seeks starved = record {
      heard = q;
      asked = asked (picking_f id) (seeking_closes id) (seeks_one id) (seeks_no_light id) old mid new q reset polls starved;
      told = told (picking_f id) (seeking_closes id) (seeks_one id) (seeks_no_light id) old mid new q reset polls starved;
      by_turns = subst (λ ts. TellsPickedF id ts q) (turns_are (picking_f id) (seeking_closes id) (seeks_one id) (seeks_no_light id) old mid new q reset polls) by_turns;
      is = refl;
      cause = cause q placed refl refl may starved;
      lost = ((λ e. lost_so.0 (found_lost placed q e)), (λ h. ap (found_if placed) (lost_so.1 h) ∙ found_err placed faults.FieldLost));
    }

    pub seeks_fault : (e : PollFault) → q ≡ Err e → (e ≡ faults.Memory → ⊥) → Seeks id (Err e) (moment old) (moment new)
    seeks_fault e is fed =
        subst (λ x. Seeks id x (moment old) (moment new)) (ap (found_if placed) is ∙ found_err placed e)
        (seeks (λ m. fed (let both : Err e ≡ Err faults.Memory = sym is ∙ m in let same : e ≡ faults.Memory = cc in same)))

    module _ (well : q ≡ Ok tt) where
      not_starving : q ≡ Err faults.Memory → ⊥
      not_starving e = let k : q ≡ Ok tt = well in cc

      behind : new.listeners ≡ map relit old.listeners
      behind = listeners_are (picking_f id) (seeking_closes id) (seeks_one id) (seeks_no_light id) old mid new q reset polls tt well

      -- it is placed where it is behind the polling
      placed_as : (v : Bool) → has_three id new.listeners ≡ v → placed ≡ v
      placed_as v h = sym (ap (has_three id) behind ∙ three_relit id old.listeners) ∙ h

      told_as : (v : Bool) → has_three id new.listeners ≡ v → Seeks id (found_if v (Ok tt)) (moment old) (moment new)
      told_as v h = subst (λ x. Seeks id x (moment old) (moment new)) (ap (λ w. found_if w q) (placed_as v h) ∙ ap (found_if v) well) (seeks not_starving)

      relit_all : AllByRecursion IsRelit new.listeners
      relit_all = subst (AllByRecursion IsRelit) (sym behind) (are_relit old.listeners)

      sound : AreSound (map kept new.listeners)
      sound = subst AreSound (sym (same_kept (picking_f id) (seeking_closes id) (seeks_one id) (seeks_no_light id) old mid new q reset polls)) tame.sound

      lit_now : new.lit ≡ true
      lit_now = world_lit (picking_f id) (seeking_closes id) (seeks_one id) (seeks_no_light id) old mid new q reset polls tt well

      -- it is selected, and stands at the place that was found
      seeks_at : (place : ℕ) → IsThreeAt id new.listeners place → SeeksAt id place (moment old) (moment new)
      seeks_at place t =
          let s = t.at in
          let whole_sound : AreSound (map kept (s.before ++ s.device ∷ s.behind)) = subst (λ ls. AreSound (map kept ls)) s.split sound in
          let relit_split : AllByRecursion IsRelit (s.before ++ s.device ∷ s.behind) = subst (AllByRecursion IsRelit) s.split relit_all in
          let from_it : AllByRecursion IsRelit (s.device ∷ s.behind) = relit_back s.before (s.device ∷ s.behind) relit_split in
          let there : has_three id new.listeners ≡ true = ap (has_three id) s.split ∙ three_amid id s.before s.device s.behind (t.three, s.named) in
          record {
            device = s.device;
            seeks = told_as true there;
            three = (t.three, s.named);
            stands = record {
              before = s.before;
              behind = s.behind;
              world = ap (λ v. record { lit = v; listeners = new.listeners }) lit_now ∙ ap (λ ls. record { lit = true; listeners = ls }) s.split;
              at = s.at;
              sound = sound_amid s.before s.device s.behind whole_sound;
              selected = selected_three s.device t.three from_it.0;
              unasked = unasked_three s.device t.three;
              first = relit_aside (device_id s.device) s.before (relit_front s.before (s.device ∷ s.behind) relit_split) (others_before s.before s.device s.behind whole_sound);
              later = relit_aside (device_id s.device) s.behind from_it.1 (others_behind s.before s.device s.behind whole_sound);
            };
          }

      pub seeks_to : (s : Selection) → FindsThree id new.listeners s → SeeksTo id s (moment old) (moment new)
      seeks_to (Place place) t = seeks_at place t
      seeks_to (Missed e) t = subst (λ f. Seeks id (Err f) (moment old) (moment new)) (sym t.0) (told_as false (none_three id new.listeners t.1))
