-- What payloads that were written by hand may come to, by the parts of what happened; and what a peer accepted stays.
use Rattle.std.proofs.Common.{◌≡◌, ◌↔◌, inl, inr, ℕ, zero, suc, ◌<◌, List, [], ◌∷◌, ◌++◌, Option, Some, None, Result, Err, refl, sym, ◌∙◌, ap, subst, arith, append_assoc}
use Rattle.std.specs.List.{AllByRecursion}
use Rattle.std.proofs.lemmas.Bool.{cases_lt}
use Rattle.nfc_base.specs.Choosing.{Choosing}
use Rattle.nfc_base.specs.declared.event.Event.{Event}
use Rattle.nfc_base.specs.declared.carrier.EndCause.{EndCause}
use Rattle.nfc_base.specs.declared.carrier.EndCause.TheVariants as causes
use Rattle.nfc_base.specs.Trace.{noise, breaks}
use Rattle.air_core.proofs.LostField.{breaks-append}
use Rattle.air_core.proofs.PlainTurns.{noise_append}
use Rattle.arrayvec.specs.ArrayVec.{ArrayVec}
use Rattle.nfca_poll.specs.declared.fault.PollFault.{PollFault}
use Rattle.nfca_poll.specs.declared.fault.PollFault.TheVariants as faults
use Rattle.dep_link.specs.Activating.{RestartedTimes}
use Rattle.dep_link.specs.AnyTarget.{told_initiator}
use Rattle.dep_link.specs.DepLinks.{brought}
use Rattle.dep_link.specs.Initiator.{InitState}
use Rattle.llcp_link.specs.Counting.{RestartsCounted}
use Rattle.llcp_link.specs.Running.{AreBytes}
use Rattle.llcp_link.specs.State.{restarted}
use Rattle.nfc_base.specs.Prefix.{IsPrefix}
use Rattle.snep_core.specs.Server.{Received, serving}
use Rattle.snep_core.proofs.jobs.CutOff.{cut_off_accepts}
use Rattle.link_calls.specs.Arriving.{ArrivesCut, all_answered}
use Rattle.bench_world.specs.declared.entry.Answer.{Answer}
use Rattle.bench_world.specs.declared.entry.Answer.TheVariants as answers
use Rattle.bench_world.specs.declared.entry.Loss.TheVariants as losses
use Rattle.bench_world.specs.Answering.{poll_answer}
use Rattle.bench_world.specs.Calls.{told_loss}
use Rattle.bench_world.specs.private.LinkedAt.{restarts}
use Rattle.bench_world.specs.Linking.{IsFieldLost}
use Rattle.bench_world.specs.World.{FarEnd}
use Rattle.bench_world.proofs.calm.Quiet.{no_breaks}
use Rattle.bench_world.proofs.link_law.ServerRuns.{answered_is, arrivals_front, bytes_are}

-- A fault of polling tells of no link.
pub poll_not_ended : (e : PollFault) (answer : Answer) → poll_answer e ≡ Some answer → (loss : _) → answer ≡ answers.LinkEnded loss → ⊥
poll_not_ended faults.Nobody answer is loss ended = cc
poll_not_ended faults.Disturbed answer is loss ended = cc
poll_not_ended faults.FieldLost answer is loss ended = cc
poll_not_ended faults.Memory answer is loss ended = cc
poll_not_ended faults.NotFound answer is loss ended = cc
poll_not_ended faults.BadAnswer answer is loss ended = cc

-- A whole answer to ATR_REQ tells of no cause but one that isn't allowed.
pub not_told : (why : EndCause) (x : Option (ℕ × ArrayVec ℕ)) → (why ≡ causes.Protocol → ⊥) → ◌≡◌ {A = Result (InitState × ArrayVec ℕ) EndCause} (Err why) (told_initiator x) → ⊥
not_told why None other e = other cc
not_told why (Some p) other e = cc

-- What the parts of a trace used.
pub more_breaks : (first rest : List Event) → 0 < breaks rest → 0 < breaks (first ++ rest)
more_breaks first rest some = omega (arith, some, breaks-append first rest)

pub rest_breaks : (first rest : List Event) → (0 < breaks first → ⊥) → 0 < breaks (first ++ rest) → 0 < breaks rest
rest_breaks first rest none all = elim (cases_lt 0 (breaks first)) [ inl some ↦ absurd (none some) | inr still ↦ omega (arith, all, still, breaks-append first rest) ]

pub more_noise : (first rest : List Event) → 0 < noise rest → 0 < noise (first ++ rest)
more_noise first rest some = omega (arith, some, noise_append first rest)

pub first_quiet : (first rest : List Event) → noise (first ++ rest) ≡ 0 → noise first ≡ 0
first_quiet first rest none = omega (arith, none, noise_append first rest)

pub rest_quiet : (first rest : List Event) → noise (first ++ rest) ≡ 0 → noise rest ≡ 0
rest_quiet first rest none = omega (arith, none, noise_append first rest)

pub all_both : {X : Type 0} (P : X → Type 0) (xs ys : List X) → AllByRecursion P xs → AllByRecursion P ys → AllByRecursion P (xs ++ ys)
all_both P [] ys h k = k
all_both P (x ∷ xs) ys h k = (h.0, all_both P xs ys h.1 k)

all_first : {X : Type 0} (P : X → Type 0) (xs ys : List X) → AllByRecursion P (xs ++ ys) → AllByRecursion P xs
all_first P [] ys h = tt
all_first P (x ∷ xs) ys h = (h.0, all_first P xs ys h.1)

-- An end that began a link, of those whose payloads have given numbers of PDUs.
pub times_of : (general : List ℕ) (n : ℕ) (far after : Choosing FarEnd) → RestartedTimes (RestartsCounted serving) general n far after → RestartedTimes restarts general n far.end after.end
times_of general zero far after e = ap (λ (c : Choosing FarEnd). c.end) e
times_of general (suc n) far after (mid, before, last) = (mid.end, times_of general n far mid before, ap (λ (c : Choosing FarEnd). c.end) last)

-- What it accepted stays, whatever arrives.
front_then : (a b c : List Received) → IsPrefix a b → IsPrefix b c → IsPrefix a c
front_then a b c (r, e) (q, d) = (r ++ q, d ∙ ap (λ z. z ++ q) e ∙ append_assoc a r q)

answered_front : (old : FarEnd) (general : List ℕ) (ns : List ℕ) (ps : List (List ℕ)) → AllByRecursion AreBytes ps
    → IsPrefix old.service.accepted (all_answered ps (record { end = restarted serving old general; numbers = ns })).end.service.accepted
answered_front old general ns ps bytes =
    let begin : FarEnd = restarted serving old general in
    subst (λ (e : FarEnd). IsPrefix old.service.accepted e.service.accepted) (sym (answered_is ps ns begin.service.table begin))
    (arrivals_front old general [] _ tt (bytes_are begin.service.table ns ps bytes))

pub grows : (old : FarEnd) (general : List ℕ) (ns : List ℕ) (es : List Event) (after : Choosing FarEnd) → ArrivesCut 0 es (record { end = restarted serving old general; numbers = ns }) after
    → IsPrefix old.service.accepted after.end.service.accepted
grows old general ns es after (inl came) =
    subst (λ (c : Choosing FarEnd). IsPrefix old.service.accepted c.end.service.accepted) (sym came.after_is) (answered_front old general ns (brought 0 es) came.bytes)
grows old general ns es after (inr stop) =
    let C : Choosing FarEnd = record { end = restarted serving old general; numbers = ns } in
    let firsts : AllByRecursion AreBytes stop.before = all_first AreBytes stop.before (stop.last ∷ []) (subst (AllByRecursion AreBytes) stop.split stop.bytes) in
    front_then old.service.accepted (all_answered stop.before C).end.service.accepted after.end.service.accepted (answered_front old general ns stop.before firsts)
    (cut_off_accepts (all_answered stop.before C).end after.end stop.last stop.stops).before

-- the answer that tells of a link that ended so
pub lost_is : (why : EndCause) (answer : Answer) → told_loss why ≡ Some answer → ((why ≡ causes.FieldLost) ↔ IsFieldLost answer)
lost_is causes.FieldLost answer told = ((λ q. inr (let same : answers.LinkEnded losses.FieldLost ≡ answer = cc in sym same)), (λ q. refl))
lost_is causes.SixBad answer told = (
  (λ q. absurd cc),
  (λ q. absurd (let same : answers.LinkEnded losses.SixBad ≡ answer = cc in elim q [
    | inl dark ↦ (let clash : answers.LinkEnded losses.SixBad ≡ answers.FieldLost = same ∙ dark in cc)
    | inr lost ↦ (let clash : answers.LinkEnded losses.SixBad ≡ answers.LinkEnded losses.FieldLost = same ∙ lost in cc)
  ])),
)
lost_is causes.Protocol answer told = absurd cc
lost_is causes.Memory answer told = absurd cc

pub six_is : (why : EndCause) (answer : Answer) → told_loss why ≡ Some answer → answer ≡ answers.LinkEnded losses.SixBad → why ≡ causes.SixBad
six_is causes.FieldLost answer told q = absurd (let same : answers.LinkEnded losses.FieldLost ≡ answer = cc in
    let clash : answers.LinkEnded losses.FieldLost ≡ answers.LinkEnded losses.SixBad = same ∙ q in cc)
six_is causes.SixBad answer told q = refl
six_is causes.Protocol answer told q = absurd cc
six_is causes.Memory answer told q = absurd cc

-- a link that ended had noise
pub never_quiet : (es : List Event) (why : EndCause) (answer : Answer) → told_loss why ≡ Some answer → (why ≡ causes.SixBad → 0 < noise es) → (why ≡ causes.FieldLost → 0 < breaks es) → noise es ≡ 0
    → ⊥
never_quiet es causes.FieldLost answer told noisy broken none = let some : 0 < breaks es = broken refl in let lit : breaks es ≡ 0 = no_breaks es none in omega (arith, some, lit)
never_quiet es causes.SixBad answer told noisy broken none = let some : 0 < noise es = noisy refl in omega (arith, some, none)
never_quiet es causes.Protocol answer told noisy broken none = cc
never_quiet es causes.Memory answer told noisy broken none = cc
