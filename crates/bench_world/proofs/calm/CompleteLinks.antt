-- What commands on the up link come to: each is answered as its peer answers it, exactly where no Break was used and no wait had six bad
-- receptions.
use Rattle.std.proofs.Common.{◌≡◌, ◌↔◌, ℕ, zero, suc, ◌<◌, ◌≤◌, nat_lt, List, [], ◌∷◌, length, map, Bool, true, false, if◌then◌else◌, Option, Some, None, refl, sym, ◌∙◌, ap, subst, arith}
use Rattle.std.specs.Prelude.{not}
use Rattle.nfc_base.specs.Trace.{breaks}
use Rattle.nfc_base.specs.declared.carrier.EndCause.TheVariants.{FieldLost, SixBad, Protocol, Memory}
use Rattle.nfc_base.specs.declared.event.Event.{Event}
use Rattle.llcp_link.specs.Names.{found}
use Rattle.snep_core.specs.declared.job.Refusal.TheVariants as refusals
use Rattle.snep_core.specs.declared.job.Ending.{Ending}
use Rattle.snep_core.specs.declared.job.Ending.TheVariants.{Done, Value, Sap, Refused}
use Rattle.snep_core.specs.declared.job.Job.{Job}
use Rattle.snep_core.specs.declared.job.Job.TheVariants.{Begins, Waits, Sends, Asks, Collects, Looks, Closes, Over}
use Rattle.snep_core.specs.declared.slot.Outcome.{Outcome}
use Rattle.snep_core.specs.declared.slot.Outcome.TheVariants as outcomes
use Rattle.snep_core.specs.Server.{Received}
use Rattle.snep_core.specs.Session.{Offer, value_of}
use Rattle.snep_core.specs.declared.job.OnSap.{OnSap}
use Rattle.snep_core.specs.Talk.{Step, Goes, Ends, GivesUp}
use Rattle.link_calls.specs.CallDue.{CallStanding, Carries, Comes, BrokenBy, Strays}
use Rattle.link_calls.specs.ClosingDue.{ClosingStanding, Calls, Releasing, Released}
use Rattle.link_calls.specs.AtOnce.{told_on}
use Rattle.link_calls.specs.declared.request.SlotMessage.{SlotMessage}
use Rattle.bench_world.proofs.open_link.Saying.{at_once_on, ending_on}
use Rattle.bench_world.specs.declared.entry.SlotDone.{SlotDone}
use Rattle.bench_world.specs.declared.entry.Answer.{Answer}
use Rattle.bench_world.specs.declared.entry.Answer.TheVariants as answers
use Rattle.bench_world.specs.declared.entry.Entry.{Entry}
use Rattle.bench_world.specs.declared.entry.Loss.{Loss}
use Rattle.bench_world.specs.declared.entry.Loss.TheVariants as losses
use Rattle.bench_world.specs.Calls.{CallAdds, CallTells, EachAdds, HadSixBad, IfLinked, IsTold, OfEnd, PeerAdds, PeerTells, GetTells, LookupTells, all_done, done_before, told_alone, told_asked}
use Rattle.bench_world.specs.Calls.{told_at_once, told_done, told_each, told_ending, told_job, told_jobs, told_one, told_several, told_step, told_call, told_closing, stands_on, stands_closing}
use Rattle.bench_world.specs.CompletingLinks.{done_so, put_answer, puts_answer, value_answer, table_answer, get_answer, peer_answer, HadSixBadBy, HadSixBadOn, IsUndisturbedOn, AskedComplete}
use Rattle.bench_world.specs.CompletingLinks.{EachWithin, IsOkAsking, IsOkBy, IsValidAsking, IsValidBy, ValidIsOk}
use Rattle.bench_world.specs.Legal.{State, Given, LegalStep, AnswerBy, CallLaw, peer_end_of}
use Rattle.link_calls.specs.Asking.{LinkAsking, Call, Does, Closes, Finding, Getting, Putting}
use Rattle.bench_world.specs.Asked.{asked_on_link}
use Rattle.bench_world.specs.Links.{OpenLink}
use Rattle.bench_world.specs.World.{FarEnd}
use Rattle.bench_world.proofs.calm.Complete.{told_once, no_lost}

pub none_told : (a : Answer) → ◌≡◌ {A = Option Answer} None (Some a) → ⊥
none_told a e = cc

none_used : (n : ℕ) → (0 < n → ⊥) → n ≡ 0
none_used zero none = refl
none_used (suc n) none = absurd (none (omega arith))

-- a link didn't end
abbrev pub GoesOn : Answer → Type 0
GoesOn answer = (loss : Loss) → answer ≡ answers.LinkEnded loss → ⊥

-- What nothing kept from its answer is told how it ended.
pub record IsEnded (answer : Answer) : Type 0 where
  pub ending : Ending
  pub told : answer ≡ told_ending ending

job_ended : (j : Job) (answer : Answer) → told_job j ≡ Some answer → IsEnded answer
job_ended (Begins most bytes) answer e = absurd (none_told answer e)
job_ended (Waits most bytes) answer e = absurd (none_told answer e)
job_ended (Sends most bytes) answer e = absurd (none_told answer e)
job_ended (Asks size have) answer e = absurd (none_told answer e)
job_ended (Collects size have) answer e = absurd (none_told answer e)
job_ended (Looks tid) answer e = absurd (none_told answer e)
job_ended Closes answer e = absurd (none_told answer e)
job_ended (Over ending) answer e = record { ending = ending; told = told_once (told_ending ending) answer e }

alone_ended : (jobs : List OnSap) (answer : Answer) → told_alone jobs ≡ Some answer → IsEnded answer
alone_ended [] answer e = absurd (none_told answer e)
alone_ended (x ∷ []) answer e = job_ended x.job answer e
alone_ended (x ∷ y ∷ xs) answer e = absurd (none_told answer e)

-- and so is a call, by what its jobs came to
pub record CameSo (call : Call) (answer : Answer) : Type 0 where
  pub jobs : List OnSap
  pub told : told_jobs call jobs ≡ Some answer

step_ended : (call : Call) (to : Step) (answer : Answer) → told_step call to ≡ Some answer → CameSo call answer
step_ended call (Goes w) answer e = absurd (none_told answer e)
step_ended call (GivesUp l) answer e = absurd (none_told answer e)
step_ended call (Ends jobs l) answer e = record { jobs = jobs; told = e }

pub call_ended : (call : Call) (c : CallStanding) (es : List Event) (answer : Answer) → IsTold (told_call call c) es answer → breaks es ≡ 0 → (c ≡ BrokenBy SixBad → ⊥) → CameSo call answer
call_ended call (Carries (w, ns) s) es answer t lit none = absurd (none_told answer t.tells)
call_ended call (Comes to i) es answer t lit none = step_ended call to answer t.tells
call_ended call (BrokenBy FieldLost) es answer t lit none = absurd (no_lost (breaks es) lit (t.lost.0 (told_once (answers.LinkEnded losses.FieldLost) answer t.tells)))
call_ended call (BrokenBy SixBad) es answer t lit none = absurd (none refl)
call_ended call (BrokenBy Protocol) es answer t lit none = absurd (none_told answer t.tells)
call_ended call (BrokenBy Memory) es answer t lit none = absurd (none_told answer t.tells)
call_ended call Strays es answer t lit none = absurd (none_told answer t.tells)

-- it doesn't tell of a link that ended
pub jobs_on : (call : Call) (jobs : List OnSap) (answer : Answer) → told_jobs call jobs ≡ Some answer → GoesOn answer
jobs_on (Putting ws) jobs answer e loss is = at_once_on ws jobs answer e loss is
jobs_on (Getting sap most key) jobs answer e loss is = let x = alone_ended jobs answer e in ending_on x.ending loss (sym x.told ∙ is)
jobs_on (Finding name) jobs answer e loss is = let x = alone_ended jobs answer e in ending_on x.ending loss (sym x.told ∙ is)

-- and a closing tells that the link is closed
closing_ended : (c : ClosingStanding) (es : List Event) (answer : Answer) → IsTold (told_closing c) es answer → breaks es ≡ 0 → (c ≡ Calls (BrokenBy SixBad) → ⊥) → answer ≡ answers.Unlinked
closing_ended (Calls (Carries (w, ns) s)) es answer t lit none = absurd (none_told answer t.tells)
closing_ended (Calls (Comes to i)) es answer t lit none = absurd (none_told answer t.tells)
closing_ended (Calls (BrokenBy FieldLost)) es answer t lit none = absurd (no_lost (breaks es) lit (t.lost.0 (told_once (answers.LinkEnded losses.FieldLost) answer t.tells)))
closing_ended (Calls (BrokenBy SixBad)) es answer t lit none = absurd (none refl)
closing_ended (Calls (BrokenBy Protocol)) es answer t lit none = absurd (none_told answer t.tells)
closing_ended (Calls (BrokenBy Memory)) es answer t lit none = absurd (none_told answer t.tells)
closing_ended (Calls Strays) es answer t lit none = absurd (none_told answer t.tells)
closing_ended (Releasing to) es answer t lit none = absurd (none_told answer t.tells)
closing_ended (Released to) es answer t lit none = told_once answers.Unlinked answer t.tells

-- Where the link didn't end, no Break was used and no wait had six bad receptions.
none_broken : (told : Option Answer) (es : List Event) (answer : Answer) → IsTold told es answer → GoesOn answer → breaks es ≡ 0
none_broken told es answer t on = none_used (breaks es) (λ some. on losses.FieldLost (t.lost.1 some))

none_six : (told : Option Answer) (es : List Event) (answer : Answer) → IsTold told es answer → GoesOn answer → told ≡ Some (answers.LinkEnded losses.SixBad) → ⊥
none_six told es answer t on six = on losses.SixBad (told_once (answers.LinkEnded losses.SixBad) answer (sym six ∙ t.tells))

-- A message is within the limit or it isn't, and so is told.
pub within : (limit n : ℕ) → n ≤ limit → nat_lt limit n ≡ false
within limit n h = grind (arith, h)

pub beyond : (limit n : ℕ) → limit < n → nat_lt limit n ≡ true
beyond limit n h = grind (arith, h)

either : (v w : Bool) (a b : Answer) → v ≡ w → (if v then a else b) ≡ (if w then a else b)
either v w a b e = ap (λ x. if x then a else b) e

module _ (end : FarEnd) (more : List Received) where
  abbrev Limit : ℕ
  Limit = end.service.limit

  one_put : (w : SlotMessage) (o : Outcome) (answer : Answer) → told_one o ≡ Some answer → EachAdds (w ∷ []) Limit (told_each (w ∷ []) answer) more → answer ≡ put_answer w.message end
  one_put w outcomes.Success answer e h =
      let same : answers.Success ≡ answer = cc in
      let k = subst (λ a. EachAdds (w ∷ []) Limit (told_each (w ∷ []) a) more) (sym same) h in
      sym same ∙ sym (either (nat_lt Limit (length w.message)) false answers.Reject answers.Success (within Limit (length w.message) k.0.0))
  one_put w outcomes.Rejected answer e h =
      let same : answers.Reject ≡ answer = cc in
      let k = subst (λ a. EachAdds (w ∷ []) Limit (told_each (w ∷ []) a) more) (sym same) h in
      sym same ∙ sym (either (nat_lt Limit (length w.message)) true answers.Reject answers.Success (beyond Limit (length w.message) k.0.0))
  one_put w outcomes.Staged answer e h = absurd cc
  one_put w outcomes.NoMessage answer e h = absurd cc

  abbrev DoneAs : ℕ → Bool → SlotDone
  DoneAs slot success = record { slot = slot; success = success }

  next_put : (w : SlotMessage) (ws : List SlotMessage) (o : Outcome) (r : Option (List SlotDone)) (ds : List SlotDone) → done_before w.slot o r ≡ Some ds
      → EachAdds (w ∷ ws) Limit (map told_done ds) more
      → ((es : List SlotDone) → r ≡ Some es → EachAdds ws Limit (map told_done es) more → es ≡ map (done_so Limit) ws) → ds ≡ map (done_so Limit) (w ∷ ws)
  next_put w ws outcomes.Success (Some es) ds e h rest =
      let is : DoneAs w.slot true ∷ es ≡ ds = cc in
      let k = subst (λ xs. EachAdds (w ∷ ws) Limit (map told_done xs) more) (sym is) h in
      sym is ∙ ap (λ v. DoneAs w.slot (not v) ∷ es) (sym (within Limit (length w.message) k.0.0)) ∙ ap (λ xs. done_so Limit w ∷ xs) (rest es refl k.1)
  next_put w ws outcomes.Rejected (Some es) ds e h rest =
      let is : DoneAs w.slot false ∷ es ≡ ds = cc in
      let k = subst (λ xs. EachAdds (w ∷ ws) Limit (map told_done xs) more) (sym is) h in
      sym is ∙ ap (λ v. DoneAs w.slot (not v) ∷ es) (sym (beyond Limit (length w.message) k.0.0)) ∙ ap (λ xs. done_so Limit w ∷ xs) (rest es refl k.1)
  next_put w ws outcomes.Staged (Some es) ds e h rest = absurd cc
  next_put w ws outcomes.NoMessage (Some es) ds e h rest = absurd cc
  next_put w ws outcomes.Success None ds e h rest = absurd cc
  next_put w ws outcomes.Rejected None ds e h rest = absurd cc
  next_put w ws outcomes.Staged None ds e h rest = absurd cc
  next_put w ws outcomes.NoMessage None ds e h rest = absurd cc

  several_put : (jobs : List OnSap) (ws : List SlotMessage) (ds : List SlotDone) → all_done ws jobs ≡ Some ds → EachAdds ws Limit (map told_done ds) more → ds ≡ map (done_so Limit) ws
  several_put jobs [] ds e h = let is : ◌≡◌ {A = List SlotDone} [] ds = cc in sym is
  several_put jobs (w ∷ ws) ds e h = next_put w ws (told_on jobs w.slot) (all_done ws jobs) ds e h (λ es is k. several_put jobs ws es is k)

  all_put : (jobs : List OnSap) (ws : List SlotMessage) (r : Option (List SlotDone)) (answer : Answer) → all_done ws jobs ≡ r → told_several r ≡ Some answer
      → EachAdds ws Limit (told_each ws answer) more
      → answer ≡ answers.Puts (map (done_so Limit) ws)
  all_put jobs ws None answer is e h = absurd cc
  all_put jobs ws (Some ds) answer is e h =
      let same : answers.Puts ds ≡ answer = cc in
      sym same ∙ ap answers.Puts (several_put jobs ws ds is (subst (λ a. EachAdds ws Limit (told_each ws a) more) (sym same) h))

  pub puts_told_so : (ws : List SlotMessage) (jobs : List OnSap) (answer : Answer) → told_at_once ws jobs ≡ Some answer → EachAdds ws Limit (told_each ws answer) more → answer ≡ puts_answer ws end
  puts_told_so [] jobs answer e h = all_put jobs [] (all_done [] jobs) answer refl e h
  puts_told_so (w ∷ []) jobs answer e h = one_put w (told_on jobs w.slot) answer e h
  puts_told_so (w ∷ v ∷ ws) jobs answer e h = all_put jobs (w ∷ v ∷ ws) (all_done (w ∷ v ∷ ws) jobs) answer refl e h

put_goes_on : (m : List ℕ) (end : FarEnd) → GoesOn (put_answer m end)
put_goes_on m end = by_limit (nat_lt end.service.limit (length m))
  where
    by_limit : (v : Bool) → GoesOn (if v then answers.Reject else answers.Success)
    by_limit true loss e = cc
    by_limit false loss e = cc

-- what the table tells of a value that it has, or that it hasn't
table_of : (most : ℕ) (key : List ℕ) (table : List Offer) → 0 < length table → table_answer most key table ≡ value_answer most (value_of key table)
table_of most key [] some = absurd (omega (arith, some))
table_of most key (o ∷ os) some = refl

some_there : (key v : List ℕ) (table : List Offer) → value_of key table ≡ Some v → 0 < length table
some_there key v [] e = absurd cc
some_there key v (o ∷ os) e = omega arith

module _ (most : ℕ) (key : List ℕ) (end : FarEnd) where
  abbrev table : List Offer
  table = end.service.table

  key_within : length key ≤ end.service.limit → get_answer most key end ≡ table_answer most key table
  key_within h = either (nat_lt end.service.limit (length key)) false answers.Reject (table_answer most key table) (within end.service.limit (length key) h)

  has_value : (v : List ℕ) → length key ≤ end.service.limit → value_of key table ≡ Some v → get_answer most key end ≡ value_answer most (Some v)
  has_value v h e = key_within h ∙ table_of most key table (some_there key v table e) ∙ ap (value_answer most) e

  get_told : (x : Ending) → GetTells most key end (told_ending x) → told_ending x ≡ get_answer most key end
  get_told Done h = absurd h
  get_told (Value v) h = sym (has_value v h.0 h.1 ∙ either (nat_lt most (length v)) false answers.Excess (answers.Value v) (within most (length v) h.2))
  get_told (Sap n) h = absurd h
  get_told (Refused refusals.Reject) h = sym (either (nat_lt end.service.limit (length key)) true answers.Reject (table_answer most key table) (beyond end.service.limit (length key) h))
  get_told (Refused refusals.NotFound) h = sym (key_within h.0 ∙ table_of most key table h.1.0 ∙ ap (value_answer most) h.1.1)
  get_told (Refused refusals.Excess) h = sym (has_value h.1.0 h.0 h.1.1 ∙ either (nat_lt most (length h.1.0)) true answers.Excess (answers.Value h.1.0) (beyond most (length h.1.0) h.1.2))
  get_told (Refused refusals.NotImplemented) h = sym (key_within h.0 ∙ ap (table_answer most key) h.1)

  get_goes_on : GoesOn (get_answer most key end)
  get_goes_on = by_limit (nat_lt end.service.limit (length key))
    where
      by_size : (v : List ℕ) (w : Bool) → GoesOn (if w then answers.Excess else answers.Value v)
      by_size v true loss e = cc
      by_size v false loss e = cc

      by_value : (o : Option (List ℕ)) → GoesOn (value_answer most o)
      by_value None loss e = cc
      by_value (Some v) loss e = by_size v (nat_lt most (length v)) loss e

      by_table : (os : List Offer) → GoesOn (table_answer most key os)
      by_table [] loss e = cc
      by_table (o ∷ os) loss e = by_value (value_of key (o ∷ os)) loss e

      by_limit : (v : Bool) → GoesOn (if v then answers.Reject else table_answer most key table)
      by_limit true loss e = cc
      by_limit false loss e = by_table table loss e

lookup_told : (name : List ℕ) (end : FarEnd) (x : Ending) → LookupTells name end (told_ending x) → told_ending x ≡ answers.Sap (found end.bound name)
lookup_told name end Done h = absurd h
lookup_told name end (Value v) h = absurd h
lookup_told name end (Sap n) h = ap answers.Sap h
lookup_told name end (Refused refusals.Reject) h = absurd h
lookup_told name end (Refused refusals.NotFound) h = absurd h
lookup_told name end (Refused refusals.Excess) h = absurd h
lookup_told name end (Refused refusals.NotImplemented) h = absurd h

-- what holds of the far end of a link's peer gives what holds of it
pub over_end : (P Q : FarEnd → Type 0) → ((end : FarEnd) → P end → Q end) → (o : Option FarEnd) → OfEnd P o → OfEnd Q o
over_end P Q h None p = absurd p
over_end P Q h (Some end) p = h end p

-- So a command on the up link is answered, by the law of its answers.
module _ (s t : State) (g : Given) (e : Entry) (l : OpenLink) (step : LegalStep s g e t) where
  linked : (Is : OpenLink → Type 0) (Else : Type 0) → s.link ≡ Some l → IfLinked s.link Is Else → Is l
  linked Is Else up h = subst (λ o. IfLinked o Is Else) up h

  pub call_law : (asked : LinkAsking) → asked_on_link e.command ≡ Some asked → s.link ≡ Some l → CallLaw s g.joins l asked e.command e.events e.answer
  call_law asked asks up =
      linked (λ k. CallLaw s g.joins k asked e.command e.events e.answer) (e.answer ≡ answers.NoLink) up (subst (λ o. AnswerBy o s g e.command e.events e.answer) asks step.answered)

-- what the answer of its peer gives
told_peer : (call : Call) (end : FarEnd) (more : List Received) (answer : Answer) → CameSo call answer → CallAdds call end answer more → CallTells call end answer
    → answer ≡ peer_answer (Does call) end
told_peer (Putting ws) end more answer x adds tells = puts_told_so end more ws x.jobs answer x.told adds.each
told_peer (Getting sap most key) end more answer x adds tells =
    let y = alone_ended x.jobs answer x.told in y.told ∙ get_told most key end y.ending (subst (GetTells most key end) y.told tells)
told_peer (Finding name) end more answer x adds tells =
    let y = alone_ended x.jobs answer x.told in y.told ∙ lookup_told name end y.ending (subst (LookupTells name end) y.told tells)

peer_goes_on : (asked : LinkAsking) (end : FarEnd) → GoesOn (peer_answer asked end)
peer_goes_on (Does (Putting [])) end loss e = cc
peer_goes_on (Does (Putting (w ∷ []))) end loss e = put_goes_on w.message end loss e
peer_goes_on (Does (Putting (w ∷ v ∷ ws))) end loss e = cc
peer_goes_on (Does (Getting sap most key)) end loss e = get_goes_on most key end loss e
peer_goes_on (Does (Finding name)) end loss e = cc
peer_goes_on Closes end loss e = cc

pub six_told : (asked : LinkAsking) (l : OpenLink) (joins : List ℕ) (es : List Event) → HadSixBad asked l joins es → told_asked asked l joins es ≡ Some (answers.LinkEnded losses.SixBad)
six_told (Does call) l joins es six = ap (told_call call) six
six_told Closes l joins es six = ap told_closing six

pub both_ends : (P Q R : FarEnd → Type 0) → ((end : FarEnd) → P end → Q end → R end) → (o : Option FarEnd) → OfEnd P o → OfEnd Q o → OfEnd R o
both_ends P Q R h None p q = absurd p
both_ends P Q R h (Some end) p q = h end p q

-- by the law of what was asked
module _ (s t : State) (g : Given) (e : Entry) (l : OpenLink) (asked : LinkAsking) (step : LegalStep s g e t) (asks : asked_on_link e.command ≡ Some asked) (up : s.link ≡ Some l) where
  abbrev law : CallLaw s g.joins l asked e.command e.events e.answer
  law = call_law s t g e l step asked asks up

  -- a wait of it had six bad receptions
  pub six_bad : HadSixBadOn l g.joins.own e.command e.events → HadSixBad asked l g.joins.own e.events
  six_bad six = subst (λ o. HadSixBadBy o l g.joins.own e.events) asks six

  pub had_six : HadSixBad asked l g.joins.own e.events → HadSixBadOn l g.joins.own e.command e.events
  had_six six = subst (λ o. HadSixBadBy o l g.joins.own e.events) (sym asks) six

  undisturbed : GoesOn e.answer → IsUndisturbedOn l g.joins.own e.command e.events
  undisturbed on = record {
    lit = none_broken (told_asked asked l g.joins.own e.events) e.events e.answer law.told on;
    waits = λ six. none_six (told_asked asked l g.joins.own e.events) e.events e.answer law.told on (six_told asked l g.joins.own e.events (six_bad six));
  }

  -- what was told where nothing kept it from its answer
  answered_by : (a : LinkAsking) → asked_on_link e.command ≡ Some a → IsTold (told_asked a l g.joins.own e.events) e.events e.answer → (HadSixBad a l g.joins.own e.events → ⊥) → breaks e.events ≡ 0
      → (end : FarEnd) → PeerAdds a end e.answer law.more → PeerTells a end e.answer → e.answer ≡ peer_answer a end
  answered_by (Does call) is told none lit end adds tells =
      told_peer call end law.more e.answer (call_ended call (stands_on l g.joins.own call e.events) e.events e.answer told lit none) adds tells
  answered_by Closes is told none lit end adds tells = closing_ended (stands_closing l g.joins.own e.events) e.events e.answer told lit none

  pub complete : OfEnd (λ end. (e.answer ≡ peer_answer asked end) ↔ IsUndisturbedOn l g.joins.own e.command e.events) (peer_end_of s l)
  complete =
      both_ends (λ end. PeerAdds asked end e.answer law.more) (λ end. PeerTells asked end e.answer) (λ end. (e.answer ≡ peer_answer asked end) ↔ IsUndisturbedOn l g.joins.own e.command e.events)
      (λ end adds tells. (
        λ so. undisturbed (subst GoesOn (sym so) (peer_goes_on asked end)),
        λ calm. answered_by asked asks law.told (λ six. calm.waits (had_six six)) calm.lit end adds tells,
      ))
      (peer_end_of s l) law.adds law.tells

pub asked_complete : AskedComplete
asked_complete asked s t g e l step asks up = complete s t g e l asked step asks up

-- A valid command gives its defined answer.
valid_get : (most : ℕ) (key v : List ℕ) (end : FarEnd) → length key ≤ end.service.limit → value_of key end.service.table ≡ Some v → length v ≤ most → get_answer most key end ≡ answers.Value v
valid_get most key v end key_fits has fits =
    has_value most key end v key_fits has ∙ either (nat_lt most (length v)) false answers.Excess (answers.Value v) (within most (length v) fits)

all_within : (limit : ℕ) (ws : List SlotMessage) → EachWithin limit ws → map (done_so limit) ws ≡ map (λ (x : SlotMessage). record { slot = x.slot; success = true }) ws
all_within limit [] h = refl
all_within limit (w ∷ ws) h =
    ap (λ v. record { slot = w.slot; success = not v } ∷ map (done_so limit) ws) (within limit (length w.message) h.0)
    ∙ ap (λ xs. record { slot = w.slot; success = true } ∷ xs) (all_within limit ws h.1)

valid_told : (asked : LinkAsking) (end : FarEnd) (answer : Answer) → IsValidAsking asked end → answer ≡ peer_answer asked end → IsOkAsking asked end answer
valid_told (Does (Putting [])) end answer v e = e
valid_told (Does (Putting (w ∷ []))) end answer v e = e ∙ either (nat_lt end.service.limit (length w.message)) false answers.Reject answers.Success (within end.service.limit (length w.message) v.0)
valid_told (Does (Putting (w ∷ x ∷ ws))) end answer v e = e ∙ ap answers.Puts (all_within end.service.limit (w ∷ x ∷ ws) v)
valid_told (Does (Getting sap most key)) end answer v e = (v.1, v.2, e ∙ valid_get most key v.1 end v.0 v.2 v.3)
valid_told (Does (Finding name)) end answer v e = e
valid_told Closes end answer v e = e

pub valid_is_ok : ValidIsOk
valid_is_ok s t g e l end step up found_end valid calm = by (asked_on_link e.command) refl valid
  where
    by : (o : Option LinkAsking) → asked_on_link e.command ≡ o → IsValidBy o end → IsOkBy o end e.answer
    by None asks v = absurd v
    by (Some asked) asks v =
        valid_told asked end e.answer v
        ((subst (OfEnd (λ x. (e.answer ≡ peer_answer asked x) ↔ IsUndisturbedOn l g.joins.own e.command e.events)) found_end (complete s t g e l asked step asks up)).1 calm)
