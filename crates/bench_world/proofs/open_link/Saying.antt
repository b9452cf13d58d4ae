-- What a call on the open link says of the peer, by what its client says of it.
use Rattle.std.proofs.Common.{◌≡◌, ◌⊎◌, ◌≤◌, ◌==◌, ℕ, true, false, List, [], ◌∷◌, ◌++◌, length, map, if◌then◌else◌, Option, Some, None, Ok, Err, refl, sym, ◌∙◌, ap, subst, append-nil, inl, inr}
use Rattle.std.proofs.lemmas.List.{append_cancel_left}
use Rattle.snep_core.specs.declared.fault.SnepFault.{SnepFault}
use Rattle.snep_core.specs.declared.fault.SnepFault.TheVariants as faults
use Rattle.snep_core.specs.declared.job.Ending.{Ending}
use Rattle.snep_core.specs.declared.job.Ending.TheVariants.{Done, Value, Sap, Refused}
use Rattle.snep_core.specs.declared.job.Job.TheVariants.{Over}
use Rattle.snep_core.specs.declared.job.Refusal.TheVariants as refusals
use Rattle.snep_core.specs.declared.slot.Outcome.{Outcome}
use Rattle.snep_core.specs.declared.slot.Outcome.TheVariants as outcomes
use Rattle.snep_core.specs.Accord.{Accords, AddsAtMost, AddsFrom, from_sap}
use Rattle.snep_core.specs.Payloads.{accepted_from}
use Rattle.snep_core.specs.Server.{Received, ServerState}
use Rattle.snep_core.specs.declared.job.OnSap.{OnSap}
use Rattle.snep_core.specs.Talk.{EndState, Puts, Gets, Finds, client_sap, one_on, sap_of_slot}
use Rattle.link_calls.specs.Asking.{Call, Finding, Getting, Putting, put_from}
use Rattle.link_calls.specs.AtOnce.{AllPut, EachOf, PutSo, ServedAtOnce, is_from, told_on}
use Rattle.link_calls.specs.Called.{Served}
use Rattle.link_calls.specs.declared.request.SlotMessage.{SlotMessage}
use Rattle.link_calls.proofs.AtOnce.{two_false}
use Rattle.bench_world.specs.declared.entry.Answer.{Answer}
use Rattle.bench_world.specs.declared.entry.Answer.TheVariants as answers
use Rattle.bench_world.specs.declared.entry.Loss.{Loss}
use Rattle.bench_world.specs.declared.entry.SlotDone.{SlotDone}
use Rattle.bench_world.specs.World.{FarEnd}
use Rattle.bench_world.specs.Calls.{AllAdd, CallAdds, CallMayAdd, CallTells, EachAdds, all_done, done_before, none_told, told_at_once, told_done, told_each, told_ending, told_jobs, told_one}
use Rattle.bench_world.specs.Calls.{told_several}
use Rattle.bench_world.proofs.link_law.PutsTold.{accepted_more}

-- how a call ended isn't told by a loss
pub ending_on : (x : Ending) (loss : Loss) → told_ending x ≡ answers.LinkEnded loss → ⊥
ending_on Done loss e = cc
ending_on (Value v) loss e = cc
ending_on (Sap n) loss e = cc
ending_on (Refused refusals.Reject) loss e = cc
ending_on (Refused refusals.NotFound) loss e = cc
ending_on (Refused refusals.Excess) loss e = cc
ending_on (Refused refusals.NotImplemented) loss e = cc

-- What a call that came to its end says of the peer.
pub record Says (call : Call) (far : FarEnd) (answer : Answer) (client : EndState) (after : FarEnd) : Type 0 where
  pub more : List Received
  pub accepted : after.service.accepted ≡ far.service.accepted ++ more
  pub adds : CallAdds call far answer more
  pub tells : CallTells call far answer
  pub accords : Accords client after
  pub never : (loss : Loss) → answer ≡ answers.LinkEnded loss → ⊥

-- What a call left at the peer that was cut off.
pub record Left (call : Call) (far after : FarEnd) : Type 0 where
  pub more : List Received
  pub accepted : after.service.accepted ≡ far.service.accepted ++ more
  pub adds : CallMayAdd call far more

-- by the fault of one: a peer of this project is never given up
abbrev pub LeftBy : Call → FarEnd → FarEnd → SnepFault → Type 0
LeftBy call far after (faults.LinkEnded c) = Left call far after
LeftBy call far after faults.Memory = Left call far after
LeftBy call far after faults.BadPeer = ⊥
LeftBy call far after _ = Unit {0}

-- a value is got
pub says_get : (sap most : ℕ) (key : List ℕ) (far : FarEnd) (ending : Ending) (client : EndState) (after : FarEnd) → Served sap (Gets most key) far (Ok ending) client after
    → Says (Getting sap most key) far (told_ending ending) client after
says_get sap most key far Done client after s = absurd s
says_get sap most key far (Value v) client after s =
    record { more = []; accepted = s.accepted ∙ sym (append-nil far.service.accepted); adds = refl; tells = (s.within, s.found, s.few); accords = s.answered.accords; never = ending_on (Value v) }
says_get sap most key far (Sap n) client after s = absurd s
says_get sap most key far (Refused refusals.Reject) client after s =
    record { more = []; accepted = s.accepted ∙ sym (append-nil far.service.accepted); adds = refl; tells = s.beyond; accords = s.answered.accords; never = ending_on (Refused refusals.Reject) }
says_get sap most key far (Refused refusals.NotFound) client after s =
    record {
      more = [];
      accepted = s.accepted ∙ sym (append-nil far.service.accepted);
      adds = refl;
      tells = (s.within, s.refuses);
      accords = s.answered.accords;
      never = ending_on (Refused refusals.NotFound);
    }
says_get sap most key far (Refused refusals.Excess) client after s =
    record {
      more = [];
      accepted = s.accepted ∙ sym (append-nil far.service.accepted);
      adds = refl;
      tells = (s.within, s.refuses);
      accords = s.answered.accords;
      never = ending_on (Refused refusals.Excess);
    }
says_get sap most key far (Refused refusals.NotImplemented) client after s =
    record {
      more = [];
      accepted = s.accepted ∙ sym (append-nil far.service.accepted);
      adds = refl;
      tells = (s.within, s.refuses);
      accords = s.answered.accords;
      never = ending_on (Refused refusals.NotImplemented);
    }

-- a name is looked up
pub says_find : (name : List ℕ) (far : FarEnd) (ending : Ending) (client : EndState) (after : FarEnd) → Served client_sap (Finds name) far (Ok ending) client after
    → Says (Finding name) far (told_ending ending) client after
says_find name far (Sap n) client after s =
    record {
      more = [];
      accepted = ap (λ (x : ServerState). x.accepted) s.aside.service ∙ sym (append-nil far.service.accepted);
      adds = refl;
      tells = s.told;
      accords = s.aside.accords;
      never = ending_on (Sap n);
    }
says_find name far Done client after s = absurd s
says_find name far (Value v) client after s = absurd s
says_find name far (Refused why) client after s = absurd s

-- one message is put from the first slot
one_other : (s : ℕ) (m : List ℕ) → is_from s (record { slot = 0; message = m } ∷ []) ≡ false → accepted_from s (from_sap client_sap m ∷ []) ≡ []
one_other s m none = ap (λ v. if v then m ∷ [] else []) (two_false (sap_of_slot 0 == s) false none).0

pub says_put : (m : List ℕ) (far : FarEnd) (ending : Ending) (client : EndState) (after : FarEnd) → Served client_sap (Puts m) far (Ok ending) client after
    → Says (put_from 0 m) far (told_ending ending) client after × (told_jobs (put_from 0 m) (one_on client_sap (Over ending)) ≡ Some (told_ending ending))
says_put m far Done client after s = (
  record {
    more = from_sap client_sap m ∷ [];
    accepted = s.accepted;
    adds = record { each = ((s.within, refl), tt); others = λ c none. one_other c m none };
    tells = tt;
    accords = s.answered.accords;
    never = ending_on Done;
  },
  refl,
)
says_put m far (Value v) client after s = absurd s
says_put m far (Sap n) client after s = absurd s
says_put m far (Refused refusals.Reject) client after s = (
  record {
    more = [];
    accepted = s.accepted ∙ sym (append-nil far.service.accepted);
    adds = record { each = ((s.beyond, refl), tt); others = λ c none. refl };
    tells = tt;
    accords = s.answered.accords;
    never = ending_on (Refused refusals.Reject);
  },
  refl,
)
says_put m far (Refused refusals.NotFound) client after s = absurd s
says_put m far (Refused refusals.Excess) client after s = absurd s
says_put m far (Refused refusals.NotImplemented) client after s = absurd s

-- and cut off
left_none : (call : Call) (far after : FarEnd) → after.service.accepted ≡ far.service.accepted → CallMayAdd call far [] → Left call far after
left_none call far after same adds = record { more = []; accepted = same ∙ sym (append-nil far.service.accepted); adds = adds }

left_put : (m : List ℕ) (far after : FarEnd) → AddsAtMost client_sap m far after → Left (put_from 0 m) far after
left_put m far after (inl e) = left_none (put_from 0 m) far after e (record { each = (inl refl, tt); others = λ c none. refl })
left_put m far after (inr (e, within)) =
    record { more = from_sap client_sap m ∷ []; accepted = e; adds = record { each = (inr (within, refl), tt); others = λ c none. one_other c m none } }

pub put_left : (m : List ℕ) (far : FarEnd) (x : SnepFault) (client : EndState) (after : FarEnd) → Served client_sap (Puts m) far (Err x) client after → LeftBy (put_from 0 m) far after x
put_left m far (faults.LinkEnded c) client after s = left_put m far after s
put_left m far faults.Memory client after s = left_put m far after s
put_left m far faults.BadPeer client after s = s
put_left m far faults.Reject client after s = tt
put_left m far faults.NotFound client after s = tt
put_left m far faults.Excess client after s = tt
put_left m far faults.NotImplemented client after s = tt
put_left m far faults.SlotBusy client after s = tt

pub get_left : (sap most : ℕ) (key : List ℕ) (far : FarEnd) (x : SnepFault) (client : EndState) (after : FarEnd) → Served sap (Gets most key) far (Err x) client after
    → LeftBy (Getting sap most key) far after x
get_left sap most key far (faults.LinkEnded c) client after s = left_none (Getting sap most key) far after s refl
get_left sap most key far faults.Memory client after s = left_none (Getting sap most key) far after s refl
get_left sap most key far faults.BadPeer client after s = s
get_left sap most key far faults.Reject client after s = tt
get_left sap most key far faults.NotFound client after s = tt
get_left sap most key far faults.Excess client after s = tt
get_left sap most key far faults.NotImplemented client after s = tt
get_left sap most key far faults.SlotBusy client after s = tt

pub find_left : (name : List ℕ) (far : FarEnd) (x : SnepFault) (client : EndState) (after : FarEnd) → Served client_sap (Finds name) far (Err x) client after → LeftBy (Finding name) far after x
find_left name far (faults.LinkEnded c) client after s = left_none (Finding name) far after s refl
find_left name far faults.Memory client after s = left_none (Finding name) far after s refl
find_left name far faults.BadPeer client after s = s
find_left name far faults.Reject client after s = tt
find_left name far faults.NotFound client after s = tt
find_left name far faults.Excess client after s = tt
find_left name far faults.NotImplemented client after s = tt
find_left name far faults.SlotBusy client after s = tt

-- messages are put at once
module _ (far after : FarEnd) (more : List Received) (grew : after.service.accepted ≡ far.service.accepted ++ more) where
  abbrev Limit : ℕ
  Limit = far.service.limit

  -- what a SAP has more
  added : (s : ℕ) (xs : List (List ℕ)) → accepted_from s after.service.accepted ≡ accepted_from s far.service.accepted ++ xs → accepted_from s more ≡ xs
  added s xs e =
      append_cancel_left (accepted_from s far.service.accepted) (accepted_from s more) xs
      (sym (accepted_more s far.service.accepted more) ∙ ap (accepted_from s) (sym grew) ∙ e)

  none_added : (s : ℕ) → accepted_from s after.service.accepted ≡ accepted_from s far.service.accepted → accepted_from s more ≡ []
  none_added s e = added s [] (e ∙ sym (append-nil (accepted_from s far.service.accepted)))

  abbrev So : (ℕ → Outcome) → ℕ → List ℕ → Type 0
  So told slot m = PutSo (told slot) (sap_of_slot slot) m far after.service.accepted

  at_most : (s : ℕ) (m : List ℕ) → AddsFrom s m far after.service.accepted → (accepted_from s more ≡ []) ⊎ ((length m ≤ Limit) × (accepted_from s more ≡ m ∷ []))
  at_most s m (inl e) = inl (none_added s e)
  at_most s m (inr (e, within)) = inr (within, added s (m ∷ []) e)

  pub each_left : (ws : List SlotMessage) → EachOf (So (λ slot. outcomes.Staged)) ws → EachAdds ws Limit (none_told ws) more
  each_left [] h = tt
  each_left (w ∷ ws) h = (at_most (sap_of_slot w.slot) w.message h.0, each_left ws h.1)

  -- one message, as it was told of
  one_said : (w : SlotMessage) (o : Outcome) (answer : Answer) → told_one o ≡ Some answer → PutSo o (sap_of_slot w.slot) w.message far after.service.accepted
      → EachAdds (w ∷ []) Limit (told_each (w ∷ []) answer) more
  one_said w outcomes.Success answer e h =
      let is : answers.Success ≡ answer = cc in
      subst (λ a. EachAdds (w ∷ []) Limit (told_each (w ∷ []) a) more) is ((h.0, added (sap_of_slot w.slot) (w.message ∷ []) h.1), tt)
  one_said w outcomes.Rejected answer e h =
      let is : answers.Reject ≡ answer = cc in
      subst (λ a. EachAdds (w ∷ []) Limit (told_each (w ∷ []) a) more) is ((h.0, none_added (sap_of_slot w.slot) h.1), tt)
  one_said w outcomes.Staged answer e h = absurd cc
  one_said w outcomes.NoMessage answer e h = absurd cc

  next_said : (w : SlotMessage) (ws : List SlotMessage) (ds : List SlotDone) (o : Outcome) (r : Option (List SlotDone)) → done_before w.slot o r ≡ Some ds
      → PutSo o (sap_of_slot w.slot) w.message far after.service.accepted
      → ((es : List SlotDone) → r ≡ Some es → EachAdds ws Limit (map told_done es) more) → EachAdds (w ∷ ws) Limit (map told_done ds) more
  next_said w ws ds outcomes.Success (Some es) e h rest =
      let is : record { slot = w.slot; success = true } ∷ es ≡ ds = cc in
      subst (λ xs. EachAdds (w ∷ ws) Limit (map told_done xs) more) is ((h.0, added (sap_of_slot w.slot) (w.message ∷ []) h.1), rest es refl)
  next_said w ws ds outcomes.Rejected (Some es) e h rest =
      let is : record { slot = w.slot; success = false } ∷ es ≡ ds = cc in
      subst (λ xs. EachAdds (w ∷ ws) Limit (map told_done xs) more) is ((h.0, none_added (sap_of_slot w.slot) h.1), rest es refl)
  next_said w ws ds outcomes.Staged (Some es) e h rest = absurd cc
  next_said w ws ds outcomes.NoMessage (Some es) e h rest = absurd cc
  next_said w ws ds outcomes.Success None e h rest = absurd cc
  next_said w ws ds outcomes.Rejected None e h rest = absurd cc
  next_said w ws ds outcomes.Staged None e h rest = absurd cc
  next_said w ws ds outcomes.NoMessage None e h rest = absurd cc

  several_said : (jobs : List OnSap) (ws : List SlotMessage) (ds : List SlotDone) → all_done ws jobs ≡ Some ds → EachOf (So (told_on jobs)) ws → EachAdds ws Limit (map told_done ds) more
  several_said jobs [] ds e h = let is : ◌≡◌ {A = List SlotDone} [] ds = cc in subst (λ xs. EachAdds [] Limit (map told_done xs) more) is tt
  several_said jobs (w ∷ ws) ds e h = next_said w ws ds (told_on jobs w.slot) (all_done ws jobs) e h.0 (λ es is. several_said jobs ws es is h.1)

  all_said : (jobs : List OnSap) (ws : List SlotMessage) (r : Option (List SlotDone)) (answer : Answer) → all_done ws jobs ≡ r → told_several r ≡ Some answer → EachOf (So (told_on jobs)) ws
      → EachAdds ws Limit (told_each ws answer) more
  all_said jobs ws None answer is e h = absurd cc
  all_said jobs ws (Some ds) answer is e h =
      let same : answers.Puts ds ≡ answer = cc in
      subst (λ a. EachAdds ws Limit (told_each ws a) more) same (several_said jobs ws ds is h)

  pub each_said : (jobs : List OnSap) (ws : List SlotMessage) (answer : Answer) → told_at_once ws jobs ≡ Some answer → EachOf (So (told_on jobs)) ws → EachAdds ws Limit (told_each ws answer) more
  each_said jobs [] answer e h = all_said jobs [] (all_done [] jobs) answer refl e h
  each_said jobs (w ∷ []) answer e h = one_said w (told_on jobs w.slot) answer e h.0
  each_said jobs (w ∷ v ∷ ws) answer e h = all_said jobs (w ∷ v ∷ ws) (all_done (w ∷ v ∷ ws) jobs) answer refl e h

several_on : (r : Option (List SlotDone)) (answer : Answer) → told_several r ≡ Some answer → (loss : Loss) → answer ≡ answers.LinkEnded loss → ⊥
several_on None answer e loss is = cc
several_on (Some ds) answer e loss is = let same : answers.Puts ds ≡ answer = cc in let clash : answers.Puts ds ≡ answers.LinkEnded loss = same ∙ is in cc

one_on_told : (o : Outcome) (answer : Answer) → told_one o ≡ Some answer → (loss : Loss) → answer ≡ answers.LinkEnded loss → ⊥
one_on_told outcomes.Success answer e loss is = let same : answers.Success ≡ answer = cc in let clash : answers.Success ≡ answers.LinkEnded loss = same ∙ is in cc
one_on_told outcomes.Rejected answer e loss is = let same : answers.Reject ≡ answer = cc in let clash : answers.Reject ≡ answers.LinkEnded loss = same ∙ is in cc
one_on_told outcomes.Staged answer e loss is = cc
one_on_told outcomes.NoMessage answer e loss is = cc

pub at_once_on : (ws : List SlotMessage) (jobs : List OnSap) (answer : Answer) → told_at_once ws jobs ≡ Some answer → (loss : Loss) → answer ≡ answers.LinkEnded loss → ⊥
at_once_on [] jobs answer e loss is = several_on (all_done [] jobs) answer e loss is
at_once_on (w ∷ []) jobs answer e loss is = one_on_told (told_on jobs w.slot) answer e loss is
at_once_on (w ∷ v ∷ ws) jobs answer e loss is = several_on (all_done (w ∷ v ∷ ws) jobs) answer e loss is

pub says_all : (ws : List SlotMessage) (far : FarEnd) (jobs : List OnSap) (answer : Answer) (client : EndState) (after : FarEnd) → told_at_once ws jobs ≡ Some answer
    → ServedAtOnce ws far (Ok jobs) client after → Says (Putting ws) far answer client after
says_all ws far jobs answer client after told s = record {
  more = s.puts.more;
  accepted = s.puts.grew;
  adds = record {
    each = each_said far after s.puts.more s.puts.grew jobs ws answer told s.puts.each;
    others = λ c none. none_added far after s.puts.more s.puts.grew c (s.puts.others c none);
  };
  tells = tt;
  accords = s.accords;
  never = at_once_on ws jobs answer told;
}

left_all : (ws : List SlotMessage) (far after : FarEnd) → AllPut (λ slot. outcomes.Staged) ws far after → Left (Putting ws) far after
left_all ws far after s = record {
  more = s.more;
  accepted = s.grew;
  adds = record { each = each_left far after s.more s.grew ws s.each; others = λ c none. none_added far after s.more s.grew c (s.others c none) };
}

pub all_left : (ws : List SlotMessage) (far : FarEnd) (x : SnepFault) (client : EndState) (after : FarEnd) → ServedAtOnce ws far (Err x) client after → LeftBy (Putting ws) far after x
all_left ws far (faults.LinkEnded c) client after s = left_all ws far after s
all_left ws far faults.Memory client after s = left_all ws far after s
all_left ws far faults.BadPeer client after s = s
all_left ws far faults.Reject client after s = tt
all_left ws far faults.NotFound client after s = tt
all_left ws far faults.Excess client after s = tt
all_left ws far faults.NotImplemented client after s = tt
all_left ws far faults.SlotBusy client after s = tt

-- a link that ended tells no more than that
pub told_none : (ws : List SlotMessage) (loss : Loss) → told_each ws (answers.LinkEnded loss) ≡ none_told ws
told_none [] loss = refl
told_none (w ∷ []) loss = refl
told_none (w ∷ v ∷ ws) loss = refl

pub loss_adds : (call : Call) (far : FarEnd) (loss : Loss) (more : List Received) → CallMayAdd call far more → CallAdds call far (answers.LinkEnded loss) more
loss_adds (Putting ws) far loss more h = subst (λ ts. AllAdd ws far ts more) (sym (told_none ws loss)) h
loss_adds (Getting sap most key) far loss more h = h
loss_adds (Finding name) far loss more h = h

pub loss_tells : (call : Call) (far : FarEnd) (loss : Loss) → CallTells call far (answers.LinkEnded loss)
loss_tells (Putting ws) far loss = tt
loss_tells (Getting sap most key) far loss = tt
loss_tells (Finding name) far loss = tt
