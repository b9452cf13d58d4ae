-- A search for Type 5 tags that keeps the field, and has a pass without noise, lists all that are placed.
use Rattle.std.proofs.Common.{◌≡◌, ◌⊎◌, inl, inr, ℕ, ◌<◌, ◌≤◌, List, [], ◌∷◌, ◌++◌, length, filter_map, Bool, true, false, if◌then◌else◌, Option, Some, Result, Ok, Err, refl, sym, subst, arith}
use Rattle.nfc_base.specs.declared.event.Event.{Event}
use Rattle.nfc_base.specs.declared.event.Event.TheVariants.{Reset, Request, Answer as Answered, Clash}
use Rattle.nfc_base.specs.Trace.{Turn, turns, back_of, noise, breaks}
use Rattle.nfca_poll.specs.declared.fault.PollFault.{PollFault}
use Rattle.nfca_poll.specs.declared.fault.PollFault.TheVariants as faults
use Rattle.nfca_poll.specs.Crowd.{Each}
use Rattle.nfcv_poll.specs.Finding.{is_answered_question, answered_questions}
use Rattle.nfcv_poll.specs.Passes.{in_first, passes, noise_of, noise_in}
use Rattle.nfcv_poll.specs.Tags.{noise_back, IsOneOf, IsNoisyQuestion, AreNoisyAtLast}
use Rattle.bench_devices.specs.declared.device.Device.{Device}
use Rattle.bench_devices.specs.Crowded.{v_if}
use Rattle.bench_devices.specs.Crowding.{CrowdTells}
use Rattle.bench_world.specs.declared.entry.Answer.{Answer}
use Rattle.bench_world.specs.declared.entry.Answer.TheVariants as answers
use Rattle.bench_world.specs.Answering.{TagsTell, tags_answer}
use Rattle.bench_world.specs.Completing.{TellsTags, HasQuietPass, TagsComplete}
use Rattle.bench_world.specs.Legal.{AnswerLaw, CrowdLaw}

each_at : {X : Type 0} (P : X → Type 0) (before : List X) (x : X) (behind : List X) → Each P (before ++ x ∷ behind) → P x
each_at P [] x behind h = h.0
each_at P (y ∷ before) x behind h = each_at P before x behind h.1

some_answer : (a b : Answer) → ◌≡◌ {A = Option Answer} (Some a) (Some b) → a ≡ b
some_answer a b e = cc

-- It failed by none of these faults, and was neither disturbed nor did it lose the field: so it found what it tells.
module _ (ds : List Device) (events : List Event) (answer : Answer) (t : TagsTell ds events answer) (unbroken : breaks events ≡ 0)
    (calm : CrowdTells ds events (Err faults.Disturbed) → ⊥) (all : (tags : List (List ℕ)) → CrowdTells ds events (Ok tags) → Each (λ i. IsOneOf i tags) (filter_map v_if ds)) where
  not_by : (fault : PollFault) → CrowdTells ds events (Err fault) → tags_answer (Err fault) ≡ Some answer → ⊥
  not_by faults.Nobody tells is = tells.causes.nobody refl
  not_by faults.Disturbed tells is = calm tells
  not_by faults.FieldLost tells is = let h : 0 < breaks events = tells.lost.0 refl in omega (arith, h, unbroken)
  not_by faults.Memory tells is = cc
  not_by faults.NotFound tells is = tells.causes.not_found refl
  not_by faults.BadAnswer tells is = tells.crowd.never_bad refl

  by_found : (r : Result (List (List ℕ)) PollFault) → CrowdTells ds events r → tags_answer r ≡ Some answer → TellsTags ds answer
  by_found (Ok tags) tells is = record {
    tags = tags;
    is = some_answer answer (answers.Crowd tags) (sym is);
    ascending = tells.ascending;
    there = tells.tags.there;
    all = all tags tells;
  }
  by_found (Err fault) tells is = absurd (not_by fault tells is)

  tells_tags : TellsTags ds answer
  tells_tags = by_found t.found t.tells t.answered

none_and_some : (n : ℕ) → n ≡ 0 → 1 ≤ n → ⊥
none_and_some n none some = omega (arith, none, some)

tells_all : (ds : List Device) (events : List Event) (answer : Answer) → TagsTell ds events answer → breaks events ≡ 0 → HasQuietPass events → TellsTags ds answer
tells_all ds events answer t unbroken q =
    tells_tags ds events answer t unbroken
    (λ tells.
    none_and_some (noise_in q.pass) q.quiet
    (each_at (λ p. 1 ≤ noise_in p) q.before q.pass q.behind (subst (Each (λ p. 1 ≤ noise_in p)) q.parts (tells.crowd.disturbed refl))))
    (λ tags tells.
    let A : List Turn → Type 0 = λ p. noise_in p ≡ 0 → Each (λ i. IsOneOf i tags) (filter_map v_if ds) in
    each_at A q.before q.pass q.behind (subst (Each A) q.parts (tells.crowd.quiet tags refl)) q.quiet)

pub tags_complete : TagsComplete
tags_complete s t g e step is unbroken quiet =
    let law : CrowdLaw s g.joins e.events e.answer = subst (λ c. AnswerLaw s g c e.events e.answer) is step.answered in
    tells_all s.world.field.listeners e.events e.answer law.tells unbroken quiet

-- Without noise no turn has any, ...
back_still : (es : List Event) → noise es ≡ 0 → noise_back (back_of es) ≡ 0
back_still [] h = refl
back_still (Reset ∷ es) h = refl
back_still (Request f x ∷ es) h = refl
back_still (Answered g x ∷ es) h = omega (arith, h)
back_still (Clash g x ∷ es) h = omega (arith, h)

turns_still : (es : List Event) → noise es ≡ 0 → Each (λ t. noise_of t ≡ 0) (turns es)
turns_still [] h = tt
turns_still (Reset ∷ es) h = turns_still es h
turns_still (Request f x ∷ es) h =
    let rest : noise es ≡ 0 = omega (arith, h) in
    let back : noise_back (back_of es) ≡ 0 = back_still es rest in
    (omega (arith, h, back), turns_still es rest)
turns_still (Answered g x ∷ es) h = turns_still es (omega (arith, h))
turns_still (Clash g x ∷ es) h = turns_still es (omega (arith, h))

-- ... and so no pass.
first_still : (t : Turn) (ps : List (List Turn)) → noise_of t ≡ 0 → Each (λ p. noise_in p ≡ 0) ps → Each (λ p. noise_in p ≡ 0) (in_first t ps)
first_still t [] none rest = (omega (arith, none), tt)
first_still t (p ∷ ps) none rest = let q : noise_in p ≡ 0 = rest.0 in (omega (arith, none, q), rest.1)

passes_still : (ts : List Turn) → Each (λ t. noise_of t ≡ 0) ts → Each (λ p. noise_in p ≡ 0) (passes ts)
passes_still [] h = tt
passes_still (t ∷ ts) h = by_question (is_answered_question t) (passes_still ts h.1)
  where
    by_question : (v : Bool) → Each (λ p. noise_in p ≡ 0) (passes ts) → Each (λ p. noise_in p ≡ 0) (if v then (t ∷ []) ∷ passes ts else in_first t (passes ts))
    by_question true rest = let none : noise_of t ≡ 0 = h.0 in (omega (arith, none), rest)
    by_question false rest = first_still t (passes ts) h.0 rest

still_or_loud : (ps : List (List Turn)) → Each (λ p. noise_in p ≡ 0) ps → Each (λ p. 1 ≤ noise_in p) ps → ps ≡ []
still_or_loud [] still loud = refl
still_or_loud (p ∷ ps) still loud = absurd (none_and_some (noise_in p) still.0 loud.0)

-- a search that asked has a pass
first_some : (t : Turn) (ps : List (List Turn)) → in_first t ps ≡ [] → ⊥
first_some t [] e = cc
first_some t (p ∷ ps) e = cc

some_pass : (ts : List Turn) → answered_questions ts ≡ 4 → passes ts ≡ [] → ⊥
some_pass [] four e = omega (arith, four)
some_pass (t ∷ ts) four e = by_question (is_answered_question t) e
  where
    by_question : (v : Bool) → (if v then (t ∷ []) ∷ passes ts else in_first t (passes ts)) ≡ [] → ⊥
    by_question true h = cc
    by_question false h = first_some t (passes ts) h

-- a front of turns without noise has none at its end
last_still : (before last : List Turn) → Each (λ t. noise_of t ≡ 0) (before ++ last) → Each (λ t. noise_of t ≡ 0) last
last_still [] last h = h
last_still (t ∷ before) last h = last_still before last h.1

no_question : (last : List Turn) → length last ≡ 4 → Each (λ t. noise_of t ≡ 0) last → Each IsNoisyQuestion last → ⊥
no_question [] four still loud = omega (arith, four)
no_question (t ∷ ts) four still loud = let loud_one : IsNoisyQuestion t = loud.0 in none_and_some (noise_of t) still.0 loud_one.noisy

not_noisy : (ts : List Turn) → Each (λ t. noise_of t ≡ 0) ts → AreNoisyAtLast ts → ⊥
not_noisy ts still n = no_question n.last n.four (last_still n.before n.last (subst (Each (λ t. noise_of t ≡ 0)) n.parts still)) n.each

none_missing : (ids found : List (List ℕ)) (ts : List Turn) → Each (λ t. noise_of t ≡ 0) ts → Each (λ i. IsOneOf i found ⊎ AreNoisyAtLast ts) ids → Each (λ i. IsOneOf i found) ids
none_missing [] found ts still missing = tt
none_missing (i ∷ ids) found ts still missing = (by_case missing.0, none_missing ids found ts still missing.1)
  where
    by_case : IsOneOf i found ⊎ AreNoisyAtLast ts → IsOneOf i found
    by_case (inl here) = here
    by_case (inr noisy) = absurd (not_noisy ts still noisy)

-- So without noise all are listed.
pub tells_quietly : (ds : List Device) (events : List Event) (answer : Answer) → TagsTell ds events answer → noise events ≡ 0 → breaks events ≡ 0 → TellsTags ds answer
tells_quietly ds events answer t none unbroken =
    let still : Each (λ t. noise_of t ≡ 0) (turns events) = turns_still events none in
    tells_tags ds events answer t unbroken
    (λ tells.
    some_pass (turns events) (tells.causes.disturbed.0 refl)
    (still_or_loud (passes (turns events)) (passes_still (turns events) still) (tells.crowd.disturbed refl)))
    (λ tags tells. none_missing (filter_map v_if ds) tags (turns events) still tells.tags.missing)
