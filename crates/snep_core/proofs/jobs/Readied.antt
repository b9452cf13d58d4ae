-- What a job submits leaves no more to come, and the connections of other SAPs as they are.
use Rattle.std.proofs.Common.{◌≡◌, ◌<◌, ◌≤◌, ℕ, zero, suc, ◌+◌, ◌-◌, ◌==◌, Bool, true, false, List, [], ◌∷◌, length, take, drop, Option, Some, None, refl, sym, ap, ◌∙◌, arith, if◌then◌else◌, is_none}
use Rattle.std.proofs.Common.{length-drop}
use Rattle.std.proofs.lemmas.Bool.{eqb-true}
use Rattle.llcp_link.specs.declared.own.OwnIs.{OwnIs}
use Rattle.llcp_link.specs.declared.own.OwnIs.TheVariants.{Asking, Open, Refused, Leaving, Closed}
use Rattle.llcp_link.specs.State.{OwnState, own_from, with_own}
use Rattle.llcp_link.specs.declared.standing.Standing.{Standing}
use Rattle.llcp_link.specs.declared.standing.Standing.TheVariants as stands
use Rattle.llcp_link.specs.Asking.{acked_of, acked_on, queued_on, refusal_of, refusal_on, standing_of, submitted_by}
use Rattle.llcp_link.proofs.OwnPlaces.{here_of}
use Rattle.llcp_link.proofs.Ranged.{either}
use Rattle.llcp_link.proofs.Submitted.{own_with, pending_submits}
use Rattle.snep_core.specs.Jobs.{Job, Begins, Waits, Sends, Asks, Collects, Looks, Closes, Over}
use Rattle.snep_core.specs.Talk.{EndState, Ready, asks_on, begins_on, behind_first, continue_bytes, miu_of, readied, ready_so, sends_on, sends_some, submits, takes_more}
use Rattle.snep_core.specs.RepliesLeft.{answer_left, job_left, to_come}

-- what is put on one connection leaves the others as they are
pub elsewhere : (s : ℕ) (o : OwnState) (os : List OwnState) → (o.here == s) ≡ false → own_from s (with_own o os) ≡ own_from s os
elsewhere s o [] n = refl
elsewhere s o (x ∷ os) n = go (x.here == o.here) refl (elsewhere s o os n)
  where
    go : (b : Bool) → (x.here == o.here) ≡ b → own_from s (with_own o os) ≡ own_from s os
        → own_from s (if b then o ∷ os else x ∷ with_own o os) ≡ own_from s (x ∷ os)
    go true t more =
        ap (λ b. if b then Some o else own_from s os) n
        ∙ sym (ap (λ b. if b then Some x else own_from s os) (ap (λ k. k == s) (eqb-true x.here o.here t) ∙ n))
    go false t more = ap (λ z. if x.here == s then Some x else z) more

-- A unit that is submitted is queued, and nothing else of its connection changes.
queued_keeps : (o : OwnState) (u : List ℕ) (i : OwnIs) → is_none (refusal_on i u) ≡ true
    → ((queued_on o u i).here ≡ o.here) × (acked_on (queued_on o u i).is ≡ acked_on i)
queued_keeps o u (Open c) t = (refl, refl)
queued_keeps o u Asking t = absurd cc
queued_keeps o u Refused t = absurd cc
queued_keeps o u Leaving t = absurd cc
queued_keeps o u Closed t = absurd cc

-- What a job submits: no more is to come than before, as many units were acknowledged, and the other connections are as they were.
pub record Readies (l : EndState) (sap : ℕ) (job : Job) (r : Ready) : Type 0 where
  pub left : to_come (own_from sap r.llc.own) r.job ≤ to_come (own_from sap l.own) job
  pub acked : acked_of (own_from sap r.llc.own) ≡ acked_of (own_from sap l.own)
  pub others : (s : ℕ) → (sap == s) ≡ false → own_from s r.llc.own ≡ own_from s l.own

module _ (sap : ℕ) where
  readies_none : (l : EndState) (job : Job) → Readies l sap job (ready_so l job)
  readies_none l job = record { left = omega arith; acked = refl; others = λ s n. refl }

  sent_keeps : (l : EndState) (u : List ℕ) (q : Option OwnState) → own_from sap l.own ≡ q → is_none (refusal_of q u) ≡ true
      → (acked_of (own_from sap (submitted_by l u q).own) ≡ acked_of q)
      × ((s : ℕ) → (sap == s) ≡ false → own_from s (submitted_by l u q).own ≡ own_from s l.own)
  sent_keeps l u None e t = absurd cc
  sent_keeps l u (Some o) e t =
      let k = queued_keeps o u o.is t in
      let here : (queued_on o u o.is).here ≡ sap = k.0 ∙ here_of sap l.own o e in (
        ap acked_of (own_with sap l.own (queued_on o u o.is) o e here) ∙ k.1,
        λ s n. elsewhere s (queued_on o u o.is) l.own (ap (λ h. h == s) here ∙ n),
      )

  -- a unit, and what follows
  readies_unit : (l : EndState) (u : List ℕ) (job now : Job) (r : Ready) → takes_more l sap u ≡ true → job_left now + 1 ≤ job_left job
      → Readies (submits l sap u) sap now r → Readies l sap job r
  readies_unit l u job now r t less h =
      let k = sent_keeps l u (own_from sap l.own) refl t in record {
        left = (let p = pending_submits l sap u t in let q = h.left in omega arith);
        acked = h.acked ∙ k.0;
        others = λ s n. h.others s n ∙ k.1 s n;
      }

  some_ready : (n miu : ℕ) (l : EndState) (most : Option ℕ) (rest : List ℕ) → 0 < miu → Readies l sap (Sends most rest) (sends_some n miu l sap most rest)
  some_ready zero miu l most rest low = readies_none l (Sends most rest)
  some_ready (suc n) miu l most [] low = readies_none l (Sends most [])
  some_ready (suc n) miu l most (b ∷ bs) low =
      either {X = Ready} (Readies l sap (Sends most (b ∷ bs))) (takes_more l sap (take miu (b ∷ bs)))
      (sends_some n miu (submits l sap (take miu (b ∷ bs))) sap most (drop miu (b ∷ bs))) (ready_so l (Sends most (b ∷ bs)))
      (λ t. readies_unit l (take miu (b ∷ bs)) (Sends most (b ∷ bs)) (Sends most (drop miu (b ∷ bs)))
      (sends_some n miu (submits l sap (take miu (b ∷ bs))) sap most (drop miu (b ∷ bs))) t (let z = length-drop miu (b ∷ bs) in omega arith)
      (some_ready n miu (submits l sap (take miu (b ∷ bs))) most (drop miu (b ∷ bs)) low)) (λ t. readies_none l (Sends most (b ∷ bs)))

  sends_ready : (l : EndState) (most : Option ℕ) (rest : List ℕ) (o : Option ℕ) → ((miu : ℕ) → o ≡ Some miu → 0 < miu)
      → Readies l sap (Sends most rest) (sends_on l sap most rest o)
  sends_ready l most rest None low = readies_none l (Sends most rest)
  sends_ready l most rest (Some miu) low = some_ready (length rest) miu l most rest (low miu refl)

  behind_left : (most : Option ℕ) (miu size : ℕ) (rest : List ℕ) → 0 < miu → length rest ≡ size - miu
      → job_left (behind_first most rest) + 1 ≤ size + 1 + answer_left most
  behind_left most miu size [] low e = omega arith
  behind_left most miu size (b ∷ bs) low e = omega arith

  begins_ready : (l : EndState) (most : Option ℕ) (bytes : List ℕ) (o : Option ℕ) → ((miu : ℕ) → o ≡ Some miu → 0 < miu)
      → Readies l sap (Begins most bytes) (begins_on l sap most bytes o)
  begins_ready l most bytes None low = readies_none l (Begins most bytes)
  begins_ready l most bytes (Some miu) low =
      either {X = Ready} (Readies l sap (Begins most bytes)) (takes_more l sap (take miu bytes))
      (ready_so (submits l sap (take miu bytes)) (behind_first most (drop miu bytes))) (ready_so l (Begins most bytes))
      (λ t. readies_unit l (take miu bytes) (Begins most bytes) (behind_first most (drop miu bytes))
      (ready_so (submits l sap (take miu bytes)) (behind_first most (drop miu bytes))) t
      (behind_left most miu (length bytes) (drop miu bytes) (low miu refl) (length-drop miu bytes))
      (readies_none (submits l sap (take miu bytes)) (behind_first most (drop miu bytes)))) (λ t. readies_none l (Begins most bytes))

  asks_ready : (l : EndState) (size : ℕ) (have : List ℕ) → Readies l sap (Asks size have) (asks_on l sap size have)
  asks_ready l size have =
      either {X = Ready} (Readies l sap (Asks size have)) (takes_more l sap continue_bytes)
      (ready_so (submits l sap continue_bytes) (Collects size have)) (ready_so l (Asks size have))
      (λ t. readies_unit l continue_bytes (Asks size have) (Collects size have) (ready_so (submits l sap continue_bytes) (Collects size have)) t
      (omega arith) (readies_none (submits l sap continue_bytes) (Collects size have))) (λ t. readies_none l (Asks size have))

some_miu : (s : Standing) (miu : ℕ) → miu_of s ≡ Some miu → 0 < miu
some_miu stands.Nothing miu e = absurd cc
some_miu stands.Waiting miu e = absurd cc
some_miu (stands.Open zero) miu e = absurd cc
some_miu (stands.Open (suc n)) miu e = let z : suc n ≡ miu = cc in omega arith
some_miu stands.Refused miu e = absurd cc
some_miu stands.Closed miu e = absurd cc

pub one_ready : (l : EndState) (sap : ℕ) (job : Job) → Readies l sap job (readied l sap job)
one_ready l sap (Begins most bytes) =
    begins_ready sap l most bytes (miu_of (standing_of (own_from sap l.own))) (some_miu (standing_of (own_from sap l.own)))
one_ready l sap (Sends most rest) =
    sends_ready sap l most rest (miu_of (standing_of (own_from sap l.own))) (some_miu (standing_of (own_from sap l.own)))
one_ready l sap (Asks size have) = asks_ready sap l size have
one_ready l sap (Waits most rest) = readies_none sap l (Waits most rest)
one_ready l sap (Collects size have) = readies_none sap l (Collects size have)
one_ready l sap (Looks tid) = readies_none sap l (Looks tid)
one_ready l sap Closes = readies_none sap l Closes
one_ready l sap (Over e) = readies_none sap l (Over e)
