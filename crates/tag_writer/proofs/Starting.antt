-- A survey, and what a write that is prepared by it starts from.
use Rattle.std.proofs.Common.{◌≡◌, inl, inr, ℕ, zero, suc, List, [], ◌∷◌, ◌++◌, length, refl, sym, ◌∙◌, ap, subst, append-nil, arith}
use Rattle.std.specs.List.{AllByRecursion}
use Rattle.std.proofs.lemmas.List.{length-append}
use Rattle.nfc_base.specs.Signal.{Signal}
use Rattle.nfc_base.specs.TagLinks.{LinkView, TagState, passed, images}
use Rattle.nfc_base.proofs.Leading.{open_before}
use Rattle.tag_reader.specs.declared.how.How.{How}
use Rattle.tag_reader.specs.declared.how.How.TheVariants.{T2, T4, T5}
use Rattle.tag_reader.specs.Asked.{ToWrite, IsDueFor}
use Rattle.tag_reader.specs.Kinds.{IsTag, IsStore, command, first}
use Rattle.tag_reader.specs.Calls.{Stays, HasSurveyed, HasSurveyedAll, GoesOn, last_of}
use Rattle.tag_reader.specs.Survey.{surveyed}
use Rattle.tag_writer.specs.declared.work.Work.{Work}
use Rattle.tag_writer.specs.WriteAsked.{last_command}
use Rattle.tag_writer.specs.Phases.{WriteJob, Since, IsNear}
use Rattle.tag_writer.specs.Planning.{IsPlannedFor}
use Rattle.tag_writer.specs.Writing.{IsPrepared}
use Rattle.tag_writer.proofs.Asking.{last_snoc}
use Rattle.tag_writer.proofs.Tags.{tag_by}

-- a survey that told
pub record IsTold (how : How) (size : ℕ) (store : List ℕ) (a b : LinkView) : Type 0 where
  pub tag : IsTag how size a
  pub store' : a.state.store ≡ store
  pub stays : Stays a b
  pub asked : HasSurveyed how size store a b
  pub whole : HasSurveyedAll how size store a b
  pub goes_on : GoesOn a b
  pub state : b.state ≡ surveyed how a.state

length_first : (how : How) (size : ℕ) (store : List ℕ) (n : ℕ) → length (first how size store n) ≡ n
length_first how size store zero = refl
length_first how size store (suc n) = omega (arith, length-append (first how size store n) (command how size store n ∷ []), length_first how size store n)

-- the last command of a survey
last_is : (how : How) (size : ℕ) (store : List ℕ) (a : LinkView) (n : ℕ) → last_of how size store a n ≡ last_command a.last (first how size store n)
last_is how size store a zero = refl
last_is how size store a (suc n) = sym (last_snoc a.last (first how size store n) (command how size store n))

same_count : (before xs ys : List Signal) → before ++ xs ≡ before ++ ys → length xs ≡ length ys
same_count before xs ys e = omega (arith, length-append before xs, length-append before ys, ap length e)

last_told : (how : How) (size : ℕ) (store : List ℕ) (a b : LinkView) → (asked : HasSurveyed how size store a b) → (whole : HasSurveyedAll how size store a b)
    → b.last ≡ last_command a.last whole.commands
last_told how size store a b asked whole =
    let counts : asked.count ≡ whole.all.count =
    sym (length_first how size store asked.count)
    ∙ same_count a.answered (first how size store asked.count) whole.commands (sym asked.answered ∙ whole.answered) ∙ ap length whole.all.list ∙ length_first how size store whole.all.count in
    elim asked.last [
      | inl done ↦ done.0 ∙ last_is how size store a asked.count ∙ ap (λ n. last_command a.last (first how size store n)) counts ∙ ap (last_command a.last) (sym whole.all.list)
      | inr next ↦ absurd (whole.all.no_more (subst (λ n. IsDueFor ToWrite how size store n) counts next.1))
    ]

pub since_told : (j : WriteJob) (a b : LinkView) → IsTold j.how j.size j.store a b → Since j a b []
since_told j a b t = record {
  store = t.store';
  more = t.stays.more;
  leads = t.stays.leads;
  before = images a t.stays.more;
  during = [];
  joined = sym (append-nil (images a t.stays.more));
  olds = (t.store', all_stored (passed a.step a.state t.stays.more) t.stays.images);
  empties = tt;
  now = inl (t.stays.store ∙ t.store', refl);
  rises = t.stays.rises;
  begun = open_before a b t.stays.more t.stays.leads t.goes_on.over;
  goes_on = t.goes_on;
  read = t.whole.commands;
  all = t.whole.all;
  answered = t.whole.answered ∙ ap (λ cs. a.answered ++ cs) (sym (append-nil t.whole.commands));
  last = last_told j.how j.size j.store a b t.asked t.whole ∙ ap (last_command a.last) (sym (append-nil t.whole.commands));
  state = t.state;
  accepted = refl;
}
  where
    all_stored : (xs : List (List ℕ)) → AllByRecursion (λ s. s ≡ a.state.store) xs → AllByRecursion (λ s. s ≡ j.store) xs
    all_stored [] all = tt
    all_stored (x ∷ xs) all = (all.0 ∙ t.store', all_stored xs all.1)

near_told : (how : How) (s t : TagState) → t ≡ surveyed how s → IsNear how t
near_told T2 s t e = tt
near_told T4 s t e = (ap (λ x. x.selected) e, ap (λ x. x.file) e)
near_told (T5 id) s t e = tt

told_for : (how : How) (size : ℕ) (store message : List ℕ) (work : Work) (a b : LinkView) → IsTold how size store a b → (p : IsPlannedFor how size store message work)
    → IsTold p.job.how p.job.size p.job.store a b
told_for how size store message work a b t p =
    subst (λ h. IsTold h p.job.size p.job.store a b) (sym p.kind) (subst (λ n. IsTold how n p.job.store a b) (sym p.sized) (subst (λ s. IsTold how size s a b) (sym p.stored) t))

pub prepared : (how : How) (size : ℕ) (store message : List ℕ) (work : Work) (a b : LinkView) → IsTold how size store a b → IsPlannedFor how size store message work
    → IsPrepared how size message work a b
prepared how size store message work a b t p =
    let told = told_for how size store message work a b t p in
    let same : b.state.store ≡ a.state.store = told.stays.store in
    record {
      job = p.job;
      at = record {
        serves = p.serves;
        work' = p.work';
        tag = tag_by p.job.how p.job.size a b told.tag told.stays.leads.kind told.stays.leads.identifier told.stays.leads.step (subst (IsStore p.job.how p.job.size) (sym same) told.tag.store);
        near = near_told p.job.how a.state b.state told.state;
        store = same ∙ told.store';
      };
      since = since_told p.job a b told;
      kind = p.kind;
      sized = p.sized;
      new = p.new;
    }
