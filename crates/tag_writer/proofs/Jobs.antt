-- The writes of a job behind a phase.
use Rattle.std.proofs.Common.{◌≡◌, ℕ, ◌+◌, ◌<◌, List, [], ◌∷◌, ◌++◌, length, take, refl, sym, ◌∙◌, subst, append_assoc, append-nil}
use Rattle.std.specs.List.{AllByRecursion}
use Rattle.nfc_base.specs.TagLinks.{LinkView}
use Rattle.nfc_base.specs.Signal.{Signal}
use Rattle.tag_reader.specs.declared.how.How.{How}
use Rattle.tag_writer.specs.declared.phase.Phase.{Phase}
use Rattle.tag_writer.specs.declared.phase.Phase.TheVariants.{Prepared, Emptied, Filled}
use Rattle.tag_writer.specs.declared.work.Work.{Work}
use Rattle.tag_writer.specs.declared.fault.WriteFault.{WriteFault}
use Rattle.tag_writer.specs.Puts.{Put}
use Rattle.tag_writer.specs.WriteAsked.{all_puts}
use Rattle.tag_writer.specs.Puttings.{IsPutOf, AnswersAs, Accepts, FailsBy, Makes, BreaksOff, signal_at}
use Rattle.tag_writer.specs.Phases.{WriteJob, IsAt, Serves, made_at, next_at}
use Rattle.tag_writer.proofs.Places.{HasNth, nth}
use Rattle.tag_writer.proofs.Tags.{IsLike, like_itself, like_puts, IsUnder, under_makes, CanDo, can_do, makes_more}

pub all_front : {A : Type 0} (P : A → Type 0) (xs ys : List A) → AllByRecursion P (xs ++ ys) → AllByRecursion P xs
all_front P [] ys all = tt
all_front P (x ∷ xs) ys all = (all.0, all_front P xs ys all.1)

pub all_rest : {A : Type 0} (P : A → Type 0) (xs ys : List A) → AllByRecursion P (xs ++ ys) → AllByRecursion P ys
all_rest P [] ys all = all
all_rest P (x ∷ xs) ys all = all_rest P xs ys all.1

-- the writes behind a phase are the next of all
pub phase_split : (phase : Phase) (j : WriteJob) → (rest : List Put) × (all_puts j.parts ≡ (made_at phase j ++ next_at phase j) ++ rest)
phase_split Prepared j = (j.parts.fill ++ j.parts.last, append_assoc j.parts.close j.parts.fill j.parts.last)
phase_split Emptied j = (j.parts.last, refl)
phase_split Filled j = ([], sym (append-nil ((j.parts.close ++ j.parts.fill) ++ j.parts.last)))

pub made_all : (phase : Phase) (j : WriteJob) → Serves j → AllByRecursion (IsPutOf j.how j.size j.store) (made_at phase j ++ next_at phase j)
made_all phase j s =
    let split = phase_split phase j in
    all_front (IsPutOf j.how j.size j.store) (made_at phase j ++ next_at phase j) split.0 (subst (AllByRecursion (IsPutOf j.how j.size j.store)) split.1 s.puts)

pub next_all : (phase : Phase) (j : WriteJob) → Serves j → AllByRecursion (IsPutOf j.how j.size j.store) (next_at phase j)
next_all phase j s = all_rest (IsPutOf j.how j.size j.store) (made_at phase j) (next_at phase j) (made_all phase j s)

-- the tag as a phase left it
pub under_at : (phase : Phase) (j : WriteJob) (work : Work) (v : LinkView) → IsAt phase j work v → IsUnder j.how j.size j.store v
under_at phase j work v at = record {
  tag = at.tag;
  near = at.near;
  like = subst (λ s. IsLike j.how j.size j.store s) (sym at.store)
      (like_puts j.how j.size j.store j.store (made_at phase j) (all_front (IsPutOf j.how j.size j.store) (made_at phase j) (next_at phase j) (made_all phase j at.serves))
      (like_itself j.how j.size j.store at.serves.store'));
}

-- the k-th write behind it
pub nth_at : (phase : Phase) (j : WriteJob) (k : ℕ) → k < length (next_at phase j) → HasNth (next_at phase j) k
nth_at phase j k low = nth (next_at phase j) k low

pub put_at : (phase : Phase) (j : WriteJob) (k : ℕ) → Serves j → (h : HasNth (next_at phase j) k) → IsPutOf j.how j.size j.store h.p
put_at phase j k s h = (all_rest (IsPutOf j.how j.size j.store) (take k (next_at phase j)) (h.p ∷ h.rest) (subst (AllByRecursion (IsPutOf j.how j.size j.store)) h.split (next_all phase j s))).0

pub front_at : (phase : Phase) (j : WriteJob) (k : ℕ) → Serves j → (h : HasNth (next_at phase j) k) → AllByRecursion (IsPutOf j.how j.size j.store) (take k (next_at phase j))
front_at phase j k s h = all_front (IsPutOf j.how j.size j.store) (take k (next_at phase j)) (h.p ∷ h.rest) (subst (AllByRecursion (IsPutOf j.how j.size j.store)) h.split (next_all phase j s))

-- what the tag does at it, where those before it were made
pub can_at : (phase : Phase) (j : WriteJob) (work : Work) (a b : LinkView) (k : ℕ) → IsAt phase j work a → (h : HasNth (next_at phase j) k) → Makes j.how a (take k (next_at phase j)) b
    → CanDo j.how b h.p
can_at phase j work a b k at h m =
    let under = under_makes j.how j.size j.store a b (take k (next_at phase j)) (under_at phase j work a at) (front_at phase j k at.serves h) m in
    can_do j.how j.size j.store b h.p under.tag under.near under.like (put_at phase j k at.serves h)

pub answers_at : (phase : Phase) (j : WriteJob) (work : Work) (a b : LinkView) (k : ℕ) (c : Signal) (how : How) → IsAt phase j work a → k < length (next_at phase j)
    → Makes j.how a (take k (next_at phase j)) b → c ≡ signal_at (next_at phase j) k → how ≡ j.how → AnswersAs how (b.step b.state c).answer
answers_at phase j work a b k c how at low m e kind =
    let h = nth_at phase j k low in
    subst (λ x. AnswersAs x (b.step b.state c).answer) (sym kind) (subst (λ f. AnswersAs j.how (b.step b.state f).answer) (sym (e ∙ h.signal)) (can_at phase j work a b k at h m).does.answers)

pub makes_at : (phase : Phase) (j : WriteJob) (a b v : LinkView) (k : ℕ) (c : Signal) (how : How) → k < length (next_at phase j) → Makes j.how a (take k (next_at phase j)) b
    → c ≡ signal_at (next_at phase j) k → how ≡ j.how → Accepts how b v c → Makes j.how a (take (k + 1) (next_at phase j)) v
makes_at phase j a b v k c how low m e kind x =
    let h = nth_at phase j k low in
    let y : Accepts j.how b v h.p.command = subst (λ f. Accepts j.how b v f) (e ∙ h.signal) (subst (λ y. Accepts y b v c) kind x) in
    subst (λ ps. Makes j.how a ps v) (sym h.more) (makes_more j.how a b v (take k (next_at phase j)) h.p m y)

pub breaks_at : (phase : Phase) (j : WriteJob) (a b v : LinkView) (k : ℕ) (c : Signal) (how : How) (e : WriteFault) → k < length (next_at phase j) → Makes j.how a (take k (next_at phase j)) b
    → c ≡ signal_at (next_at phase j) k → how ≡ j.how → FailsBy how b v c e → BreaksOff j.how a (next_at phase j) v e
breaks_at phase j a b v k c how e low m is kind x =
    let h = nth_at phase j k low in
    record {
      front = take k (next_at phase j);
      next = h.p;
      rest = h.rest;
      split = h.split;
      at = b;
      makes = m;
      fails = subst (λ f. FailsBy j.how b v f e) (is ∙ h.signal) (subst (λ y. FailsBy y b v c e) kind x);
    }
