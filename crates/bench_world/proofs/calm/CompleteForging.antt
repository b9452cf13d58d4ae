-- What a sending of payloads comes to: a placed peer's replies are heard, one of each, and a placed tag tells that it has no link as peers do,
-- where little noise is.
use Rattle.std.proofs.Common.{◌≡◌, inl, inr, ℕ, suc, ◌+◌, ◌<◌, List, [], ◌∷◌, ◌++◌, length, Bool, true, false, if◌then◌else◌, Some, None, Option, Result, Ok, Err, refl, sym, ◌∙◌, ap, subst, arith}
use Rattle.std.specs.Prelude.{nat_lt}
use Rattle.std.proofs.lemmas.List.{length-append}
use Rattle.nfc_base.specs.Trace.{noise, breaks}
use Rattle.nfc_base.specs.declared.carrier.EndCause.TheVariants as cause
use Rattle.nfc_base.specs.declared.event.Event.{Event}
use Rattle.nfc_base.specs.declared.event.Heard as hearing
use Rattle.nfc_base.specs.declared.event.Heard.TheVariants.{Whole, Collided, Damaged, Silent}
use Rattle.air_core.specs.Conversation.{Note, Lit, Got, Lost, EachDue, AreTurns, FatesFrom, Moment, receptions}
use Rattle.arrayvec.specs.ArrayVec.{ArrayVec}
use Rattle.nfca_poll.specs.declared.fault.PollFault.{PollFault}
use Rattle.nfca_poll.specs.declared.fault.PollFault.TheVariants as faults
use Rattle.nfca_poll.specs.Ident.{IsIdent}
use Rattle.dep_link.specs.Activating.{told_atr}
use Rattle.dep_link.specs.Asking as dep
use Rattle.dep_link.specs.Asking.{noted}
use Rattle.dep_link.specs.Frames.{spelled}
use Rattle.dep_link.specs.Initiator.{InitState, waiting}
use Rattle.link_calls.specs.Exchanging.{Sending, by_hand, sending}
use Rattle.link_calls.specs.Walk as walks
use Rattle.link_calls.specs.Walk.{Walk, Carries, Comes, BrokenBy, walk_at, walk_carried, walk_noted}
use Rattle.bench_script.specs.declared.command.Command.{Command}
use Rattle.bench_script.specs.declared.command.Command.TheVariants.{Forge}
use Rattle.bench_script.specs.declared.command.DeviceId.TheVariants.{A}
use Rattle.bench_devices.specs.declared.device.Device.{Device}
use Rattle.bench_devices.specs.declared.polling.SeenKind.{SeenKind}
use Rattle.bench_devices.specs.declared.polling.SeenKind.TheVariants as seen
use Rattle.bench_devices.specs.Answering.{IsNamed, HasPollCause}
use Rattle.bench_devices.specs.Device.{seen_of, is_tag}
use Rattle.bench_devices.specs.Placed.{device_with}
use Rattle.bench_devices.specs.Polling.{Told, selecting}
use Rattle.bench_world.specs.declared.entry.Answer.{Answer}
use Rattle.bench_world.specs.declared.entry.Answer.TheVariants as answers
use Rattle.bench_world.specs.declared.entry.Entry.{Entry}
use Rattle.bench_world.specs.declared.entry.Loss.TheVariants as losses
use Rattle.bench_world.specs.Completing.{IsQuietOnce}
use Rattle.bench_world.specs.CompletingForging.{ForgesPlaced, ForgesQuietly, ForgedKindsTold, ForgingsComplete, HadSixBad, IsHeardOf, IsUndisturbedForging, QuietForgings}
use Rattle.bench_world.specs.Forging as forging
use Rattle.bench_world.specs.Forging.{Forging, ForgeEnds, ForgeTells, Activates, Exchanges, Unlinked, bad_again, forge_noted, forge_stand, heard_atr, linked_by, then_forges, told_forging, told_walk}
use Rattle.bench_world.specs.Journal.{asking_lines}
use Rattle.bench_world.specs.Legal.{State, Given, LegalStep, AnswerLaw, ForgeLaw, world_at_start, changed, due, first_state}
use Rattle.bench_world.specs.Linking.{IsFieldLost}
use Rattle.bench_world.specs.Quiet.{AllPass}
use Rattle.bench_world.specs.World.{WholeWorld, bench_air}
use Rattle.bench_world.proofs.calm.Complete.{told_once, no_lost, missed, given_up}
use Rattle.bench_world.proofs.calm.CompleteLinkings.{ident_of, no_tag, tag_five, tag_four, tag_two}
use Rattle.bench_world.proofs.lines.OneAnswer.{one_end}
use Rattle.bench_world.proofs.devices.OpeningKind.{kind_told}
use Rattle.bench_world.proofs.devices.Placing.{with_sound}
use Rattle.bench_world.proofs.calm.Quiet.{no_breaks, quiet_of, first_round}
use Rattle.bench_world.proofs.devices.Reached.{IsReady, ready_behind, first_ready}

-- One reply is there of each payload that was sent.
abbrev Counted : ℕ → Walk Sending (List (List ℕ)) → Type 0
Counted n (Carries w s) = length w.replies + (1 + length w.later) ≡ n
Counted n (Comes replies i) = length replies ≡ n
Counted n (BrokenBy why) = Unit {0}
Counted n walks.Strays = Unit {0}

sending_counted : (n : ℕ) (payloads replies : List (List ℕ)) (i : InitState) → length replies + length payloads ≡ n → Counted n (walk_at by_hand (sending payloads replies) i)
sending_counted n [] replies i is = omega (arith, is)
sending_counted n (p ∷ ps) replies i is = omega (arith, is)

carried_counted : (n : ℕ) (w : Sending) (s : dep.Standing) → length w.replies + (1 + length w.later) ≡ n → Counted n (walk_carried by_hand w s)
carried_counted n w (dep.Waits i f) is = is
carried_counted n w (dep.Rests i reply) is =
    let more : length (w.replies ++ reply ∷ []) ≡ length w.replies + 1 = length-append w.replies (reply ∷ []) in
    sending_counted n w.later (w.replies ++ reply ∷ []) i (omega (arith, is, more))
carried_counted n w (dep.Broken why) is = tt
carried_counted n w dep.Astray is = tt

noted_counted : (n : ℕ) (w : Walk Sending (List (List ℕ))) (k : Note) → Counted n w → Counted n (walk_noted by_hand w k)
noted_counted n (Carries w s) k is = carried_counted n w (noted s k) is
noted_counted n (Comes replies i) k is = tt
noted_counted n (BrokenBy why) k is = tt
noted_counted n walks.Strays k is = tt

abbrev AllCounted : ℕ → Forging → Type 0
AllCounted n (Exchanges w) = Counted n w
AllCounted n (Activates bad) = Unit {0}
AllCounted n (Unlinked why) = Unit {0}
AllCounted n forging.Strays = Unit {0}

module _ (payloads : List (List ℕ)) where
  abbrev n : ℕ
  n = length payloads

  linked_counted : (o : Option (ℕ × ArrayVec ℕ)) → AllCounted n (linked_by payloads o)
  linked_counted None = tt
  linked_counted (Some p) = sending_counted n payloads [] (waiting p.0) (omega arith)

  bad_counted : (bad : ℕ) → AllCounted n (bad_again bad)
  bad_counted bad = by (nat_lt bad 5)
    where
      by : (v : Bool) → AllCounted n (if v then Activates (suc bad) else Unlinked cause.SixBad)
      by true = tt
      by false = tt

  heard_counted : (bad : ℕ) (h : hearing.Heard) → AllCounted n (heard_atr payloads bad h)
  heard_counted bad (Whole f) = linked_counted (told_atr (spelled f))
  heard_counted bad (Collided f) = bad_counted bad
  heard_counted bad Damaged = bad_counted bad
  heard_counted bad Silent = bad_counted bad

  one_counted : (s : Forging) (k : Note) → AllCounted n s → AllCounted n (forge_noted payloads s k)
  one_counted (Activates bad) Lit is = tt
  one_counted (Activates bad) (Got h) is = heard_counted bad h
  one_counted (Activates bad) Lost is = tt
  one_counted (Exchanges w) k is = noted_counted n w k is
  one_counted (Unlinked why) k is = tt
  one_counted forging.Strays k is = tt

  all_counted : (ns : List Note) (s : Forging) → AllCounted n s → AllCounted n (forge_stand payloads s ns)
  all_counted [] s is = is
  all_counted (k ∷ ns) s is = all_counted ns (forge_noted payloads s k) (one_counted s k is)

-- What is told where it stands so.
same_told : (a b : Answer) → ◌≡◌ {A = Option Answer} (Some a) (Some b) → b ≡ a
same_told a b e = cc

module _ (m : ℕ) (answer : Answer) where
  abbrev Heard : Type 0
  Heard = (replies : List (List ℕ)) × (answer ≡ answers.Replies replies) × (length replies ≡ m)

  -- the replies, unless the field was lost or a wait had six bad receptions
  walk_heard : (w : Walk Sending (List (List ℕ))) → Counted m w → told_walk w ≡ Some answer → (IsFieldLost answer → ⊥) → (HadSixBad (Exchanges w) → ⊥) → Heard
  walk_heard (Carries w s) is told lit six = absurd cc
  walk_heard (Comes replies i) is told lit six = (replies, same_told (answers.Replies replies) answer told, is)
  walk_heard (BrokenBy cause.FieldLost) is told lit six = absurd (lit (inr (same_told (answers.LinkEnded losses.FieldLost) answer told)))
  walk_heard (BrokenBy cause.SixBad) is told lit six = absurd (six tt)
  walk_heard (BrokenBy cause.Protocol) is told lit six = absurd cc
  walk_heard (BrokenBy cause.Memory) is told lit six = absurd cc
  walk_heard walks.Strays is told lit six = absurd cc

  stand_heard : (s : Forging) → AllCounted m s → told_forging s ≡ Some answer → (IsFieldLost answer → ⊥) → (HadSixBad s → ⊥) → Heard
  stand_heard (Activates bad) is told lit six = absurd cc
  stand_heard (Exchanges w) is told lit six = walk_heard w is told lit six
  stand_heard (Unlinked cause.FieldLost) is told lit six = absurd (lit (inr (same_told (answers.LinkEnded losses.FieldLost) answer told)))
  stand_heard (Unlinked cause.SixBad) is told lit six = absurd (six tt)
  stand_heard (Unlinked cause.Protocol) is told lit six = absurd cc
  stand_heard (Unlinked cause.Memory) is told lit six = absurd cc
  stand_heard forging.Strays is told lit six = absurd cc

  heard_by : (v w : Bool) → v ≡ w → IsHeardOf w m answer → IsHeardOf v m answer
  heard_by v w e h = subst (λ b. IsHeardOf b m answer) (sym e) h

module _ (id : List ℕ) (ds : List Device) (d : Device) (placed : device_with id ds ≡ Some d) (named : IsNamed (A id) d) (payloads : List (List ℕ)) (answer : Answer)
    (lit : IsFieldLost answer → ⊥) where
  -- once a device is selected, it is seen to be what it is
  forge_ends : (r : Result SeenKind PollFault) (behind : List Note) (es : List Event) → IsQuietOnce (A id) es → ((k : SeenKind) → r ≡ Ok k → seen_of d ≡ k)
      → (r ≡ Ok seen.Peer → HadSixBad (forge_stand payloads (Activates 0) behind) → ⊥) → HasPollCause (A id) ds r es → ForgeEnds payloads r behind answer
      → IsHeardOf (is_tag d) (length payloads) answer
  forge_ends (Ok seen.T2) behind es q kind none c e = heard_by (length payloads) answer (is_tag d) true (tag_two d (kind seen.T2 refl)) e
  forge_ends (Ok seen.T4) behind es q kind none c e = heard_by (length payloads) answer (is_tag d) true (tag_four d (kind seen.T4 refl)) e
  forge_ends (Ok seen.T5) behind es q kind none c e = heard_by (length payloads) answer (is_tag d) true (tag_five d (kind seen.T5 refl)) e
  forge_ends (Ok seen.Peer) behind es q kind none c e =
      heard_by (length payloads) answer (is_tag d) false (no_tag d (kind seen.Peer refl))
      (stand_heard (length payloads) answer (forge_stand payloads (Activates 0) behind) (all_counted payloads behind (Activates 0) tt) e lit (none refl))
  forge_ends (Err faults.Nobody) behind es q kind none c e = absurd c
  forge_ends (Err faults.Disturbed) behind es q kind none c e = absurd (given_up (A id) ds d placed named (A id) es q c)
  forge_ends (Err faults.FieldLost) behind es q kind none c e = absurd (lit (inl (told_once answers.FieldLost answer e)))
  forge_ends (Err faults.Memory) behind es q kind none c e = absurd c
  forge_ends (Err faults.NotFound) behind es q kind none c e = absurd (missed (A id) ds d placed named (A id) es placed named q c)
  forge_ends (Err faults.BadAnswer) behind es q kind none c e = absurd c

-- What tells of a kind is right of the device.
module _ (d : Device) (payloads : List (List ℕ)) (answer : Answer) where
  abbrev TellsKind : Type 0
  TellsKind = (answer ≡ answers.WrongKind → is_tag d ≡ true) × ((replies : List (List ℕ)) → answer ≡ answers.Replies replies → (is_tag d ≡ false) × (length replies ≡ length payloads))

  of_tag : is_tag d ≡ true → answer ≡ answers.WrongKind → TellsKind
  of_tag tag is = ((λ w. tag), (λ rs q. absurd (let clash : answers.WrongKind ≡ answers.Replies rs = sym is ∙ q in cc)))

  of_replies : is_tag d ≡ false → (rs : List (List ℕ)) → answer ≡ answers.Replies rs → length rs ≡ length payloads → TellsKind
  of_replies peer rs is many =
      ((λ w. absurd (let clash : answers.Replies rs ≡ answers.WrongKind = sym is ∙ w in cc)), (λ qs q. (peer, ap length (one_list qs (sym q ∙ is)) ∙ many)))
    where
      one_list : (qs : List (List ℕ)) → answers.Replies qs ≡ answers.Replies rs → qs ≡ rs
      one_list qs e = cc

  of_other : (a : Answer) → answer ≡ a → (a ≡ answers.WrongKind → ⊥) → ((rs : List (List ℕ)) → a ≡ answers.Replies rs → ⊥) → TellsKind
  of_other a is wrong replies = ((λ w. absurd (wrong (sym is ∙ w))), (λ rs q. absurd (replies rs (sym is ∙ q))))

  of_walk : is_tag d ≡ false → (w : Walk Sending (List (List ℕ))) → Counted (length payloads) w → told_walk w ≡ Some answer → TellsKind
  of_walk peer (Carries w s) is told = absurd cc
  of_walk peer (Comes replies i) is told = of_replies peer replies (same_told (answers.Replies replies) answer told) is
  of_walk peer (BrokenBy cause.FieldLost) is told = of_other (answers.LinkEnded losses.FieldLost) (same_told (answers.LinkEnded losses.FieldLost) answer told) (λ w. cc) (λ rs q. cc)
  of_walk peer (BrokenBy cause.SixBad) is told = of_other (answers.LinkEnded losses.SixBad) (same_told (answers.LinkEnded losses.SixBad) answer told) (λ w. cc) (λ rs q. cc)
  of_walk peer (BrokenBy cause.Protocol) is told = absurd cc
  of_walk peer (BrokenBy cause.Memory) is told = absurd cc
  of_walk peer walks.Strays is told = absurd cc

  of_stand : is_tag d ≡ false → (s : Forging) → AllCounted (length payloads) s → told_forging s ≡ Some answer → TellsKind
  of_stand peer (Activates bad) is told = absurd cc
  of_stand peer (Exchanges w) is told = of_walk peer w is told
  of_stand peer (Unlinked cause.FieldLost) is told = of_other (answers.LinkEnded losses.FieldLost) (same_told (answers.LinkEnded losses.FieldLost) answer told) (λ w. cc) (λ rs q. cc)
  of_stand peer (Unlinked cause.SixBad) is told = of_other (answers.LinkEnded losses.SixBad) (same_told (answers.LinkEnded losses.SixBad) answer told) (λ w. cc) (λ rs q. cc)
  of_stand peer (Unlinked cause.Protocol) is told = absurd cc
  of_stand peer (Unlinked cause.Memory) is told = absurd cc
  of_stand peer forging.Strays is told = absurd cc

  kinds_by : (r : Result SeenKind PollFault) (behind : List Note) → ((k : SeenKind) → r ≡ Ok k → seen_of d ≡ k) → ForgeEnds payloads r behind answer → TellsKind
  kinds_by (Ok seen.T2) behind kind e = of_tag (tag_two d (kind seen.T2 refl)) e
  kinds_by (Ok seen.T4) behind kind e = of_tag (tag_four d (kind seen.T4 refl)) e
  kinds_by (Ok seen.T5) behind kind e = of_tag (tag_five d (kind seen.T5 refl)) e
  kinds_by (Ok seen.Peer) behind kind e = of_stand (no_tag d (kind seen.Peer refl)) (forge_stand payloads (Activates 0) behind) (all_counted payloads behind (Activates 0) tt) e
  kinds_by (Err faults.Nobody) behind kind e = absurd cc
  kinds_by (Err faults.Disturbed) behind kind e = of_other answers.Disturbed (told_once answers.Disturbed answer e) (λ w. cc) (λ rs q. cc)
  kinds_by (Err faults.FieldLost) behind kind e = of_other answers.FieldLost (told_once answers.FieldLost answer e) (λ w. cc) (λ rs q. cc)
  kinds_by (Err faults.Memory) behind kind e = absurd cc
  kinds_by (Err faults.NotFound) behind kind e = of_other answers.NotFound (told_once answers.NotFound answer e) (λ w. cc) (λ rs q. cc)
  kinds_by (Err faults.BadAnswer) behind kind e = absurd cc

-- six bad receptions of a wait are told
six_told : (s : Forging) (answer : Answer) → HadSixBad s → told_forging s ≡ Some answer → answer ≡ answers.LinkEnded losses.SixBad
six_told (Unlinked cause.SixBad) answer six told = same_told (answers.LinkEnded losses.SixBad) answer told
six_told (Exchanges (BrokenBy cause.SixBad)) answer six told = same_told (answers.LinkEnded losses.SixBad) answer told
six_told s answer six told = absurd six

module _ (s t : State) (g : Given) (e : Entry) (id : List ℕ) (payloads : List (List ℕ)) (d : Device) (ready : IsReady s.world.field.listeners) (step : LegalStep s g e t)
    (o : ForgesPlaced s e id payloads d) where
  law : ForgeLaw s g.joins id payloads e.events e.answer
  law = let L : Command → Type 0 = λ c. AnswerLaw s g c e.events e.answer in subst L o.command step.answered

  tells : ForgeTells id s.world.field.listeners payloads e.events e.answer
  tells = law.tells

  -- the device is of the kind that is told
  kind_is : (k : SeenKind) (behind : List Note) → selecting (A id) (receptions e.events) ≡ Told (Ok k) behind → seen_of d ≡ k
  kind_is k behind told =
      let a : Moment WholeWorld = record { world = world_at_start s g.joins (Forge id payloads); queue = s.queue; trace = [] } in
      let ident : IsIdent id = ident_of id d (with_sound s.world.field.listeners id d ready.tame.sound o.placed) o.named in
      kind_told id (forging.forging id payloads) (then_forges payloads) (λ hs. refl) (λ n. refl) (λ x ns. refl) a ident ready.tame ready.tidy refl e.events
      (subst (λ c. AreTurns bench_air (world_at_start s g.joins c) e.events) o.command step.front.turns)
      (subst (λ c. FatesFrom (changed s c).queue e.events) o.command step.front.fates) (subst (λ c. EachDue (due s g c) [] e.events) o.command step.front.each) d o.placed k behind told

  told_so : (k : SeenKind) → law.tells.polled ≡ Ok k → selecting (A id) (receptions e.events) ≡ Told (Ok k) law.tells.behind
  told_so k is = law.tells.selected ∙ ap (λ r. Told r law.tells.behind) is

  forge_complete : IsUndisturbedForging id payloads e.events → IsHeardOf (is_tag d) (length payloads) e.answer
  forge_complete calm =
      forge_ends id s.world.field.listeners d o.placed o.named payloads e.answer (λ lost. no_lost (breaks e.events) calm.lit (law.tells.lost.0 lost)) law.tells.polled law.tells.behind e.events
      calm.round
      (λ k is. kind_is k law.tells.behind (told_so k is)) (λ is six. calm.waits law.tells.behind (told_so seen.Peer is) six) law.tells.cause law.tells.ends

  kinds_so : TellsKind d payloads e.answer
  kinds_so = kinds_by d payloads e.answer law.tells.polled law.tells.behind (λ k is. kind_is k law.tells.behind (told_so k is)) law.tells.ends

  -- without noise nothing keeps it from its answer
  none_six : noise e.events ≡ 0 → (behind : List Note) → selecting (A id) (receptions e.events) ≡ Told (Ok seen.Peer) behind → HadSixBad (forge_stand payloads (Activates 0) behind) → ⊥
  none_six none behind told six =
      let same = one_end law.tells.polled (Ok seen.Peer) law.tells.behind behind (sym law.tells.selected ∙ told) in
      let ends : ForgeEnds payloads (Ok seen.Peer) behind e.answer =
      subst (λ ns. ForgeEnds payloads (Ok seen.Peer) ns e.answer) same.1 (subst (λ r. ForgeEnds payloads r law.tells.behind e.answer) same.0 law.tells.ends) in
      let some : 0 < noise e.events = law.tells.noisy (six_told (forge_stand payloads (Activates 0) behind) e.answer six ends) in
      omega (arith, none, some)

  undisturbed : AllPass s.queue → IsUndisturbedForging id payloads e.events
  undisturbed pass =
      let none : noise e.events ≡ 0 = quiet_of s t g e (Forge id payloads) step o.command refl pass in
      record {
        lit = no_breaks e.events none;
        round = first_round bench_air (world_at_start s g.joins (Forge id payloads)) (due s g (Forge id payloads)) e.events
            (subst (λ c. AreTurns bench_air (world_at_start s g.joins c) e.events) o.command step.front.turns)
            (subst (λ c. EachDue (due s g c) [] e.events) o.command step.front.each) refl (ap (λ c. due s g c (receptions e.events)) (sym o.command) ∙ step.over) none;
        waits = none_six none;
      }

pub forges_quietly : (s t : State) (g : Given) (e : Entry) → IsReady s.world.field.listeners → LegalStep s g e t → AllPass s.queue → ForgesQuietly s e
forges_quietly s t g e ready step pass id payloads d o = forge_complete s t g e id payloads d ready step o (undisturbed s t g e id payloads d ready step o pass)

-- So it is wherever the lines of a script lead.
pub forgings_complete : ForgingsComplete
forgings_complete lines numbers journal s t g e id payloads d leads step o calm =
    forge_complete s t g e id payloads d (ready_behind (asking_lines 1 lines) first_state s leads.given journal first_ready leads.numbered leads.steps) step o calm

pub quiet_forgings : QuietForgings
quiet_forgings lines numbers journal s t g e leads step pass =
    forges_quietly s t g e (ready_behind (asking_lines 1 lines) first_state s leads.given journal first_ready leads.numbered leads.steps) step pass

pub forged_kinds : ForgedKindsTold
forged_kinds lines numbers journal s t g e id payloads d leads step o =
    kinds_so s t g e id payloads d (ready_behind (asking_lines 1 lines) first_state s leads.given journal first_ready leads.numbered leads.steps) step o
