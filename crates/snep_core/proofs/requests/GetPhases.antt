-- A get at a server that awaits a request: how it is read, and what comes of it.
use Rattle.std.proofs.Common.{◌≡◌, ◌<◌, ◌≤◌, ℕ, ◌-◌, ◌^◌, nat_lt, Bool, true, false, List, [], ◌∷◌, ◌++◌, length, Option, Some, None, refl, sym, ◌∙◌, ap, arith, append-nil, if◌then◌else◌}
use Rattle.std.proofs.lemmas.Bool.{eq-eqb, le-ltb, lt-ltb, ltb-false, ltb-true, ne_eqb}
use Rattle.snep_core.specs.declared.message.Answer.{Answer}
use Rattle.snep_core.specs.declared.message.Answer.TheVariants as answers
use Rattle.snep_core.specs.declared.message.Request.TheVariants.{Get}
use Rattle.snep_core.specs.declared.job.Refusal.{Refusal}
use Rattle.snep_core.specs.declared.job.Refusal.TheVariants as refusals
use Rattle.snep_core.specs.declared.session.Word.{Word}
use Rattle.snep_core.specs.declared.session.Word.TheVariants.{Answers, Offers}
use Rattle.snep_core.specs.declared.session.Due.TheVariants.{Tells}
use Rattle.snep_core.specs.Accord.{RefusesGet}
use Rattle.snep_core.specs.Calling.{refused_by}
use Rattle.snep_core.specs.Jobs.{Ending, Over, Refused, Sends, Value, job_told}
use Rattle.snep_core.specs.Message.{four_bytes, get_code, message}
use Rattle.snep_core.specs.Server.{Received}
use Rattle.snep_core.specs.Session.{Did, Offer, fresh_session, gets, got, value_of}
use Rattle.snep_core.proofs.requests.AnswerPhases.{answered}
use Rattle.snep_core.proofs.requests.RequestPhases.{Asked, IsRead, Outcome, number_is}
use Rattle.snep_core.proofs.requests.ValuePhases.{Offering, later, value_converses, value_ends}

-- a get
abbrev pub ask : ℕ → List ℕ → Asked
ask most key = record { request = Get; code = get_code; most = Some most; info = four_bytes most ++ key; size = length key }

-- it has its four bytes, and of the rest the server's limit is asked
enough : (most : ℕ) (key : List ℕ) → nat_lt (length (four_bytes most ++ key)) 4 ≡ false
enough most key = le-ltb (length (four_bytes most ++ key)) 4 (omega arith)

counted : (most : ℕ) (key : List ℕ) → length (four_bytes most ++ key) - 4 ≡ length key
counted most key = omega arith

pub get_read : (limit most : ℕ) (key : List ℕ) → length key ≤ 65536 → IsRead limit (ask most key)
get_read limit most key short = record {
  short = omega arith;
  over = λ long k h. rw (enough most key, counted most key, lt-ltb limit (length key) long) refl;
  whole = λ few.
      (let n = length (four_bytes most ++ key) in
      rw (enough most key, counted most key, le-ltb limit (length key) few, le-ltb n n (omega arith), eq-eqb n n refl) refl);
  partly = λ few k h.
      (let n = length (four_bytes most ++ key) in
      rw (enough most key, counted most key, le-ltb limit (length key) few, le-ltb n k (omega arith), ne_eqb n k (λ e. omega arith)) refl);
}

-- what a table comes to that is asked for a key
abbrev pub ComesTo : List Offer → ℕ → List ℕ → Ending → Type 0
ComesTo table most key (Value v) = (value_of key table ≡ Some v) × (length v ≤ most)
ComesTo table most key (Refused r) = RefusesGet table most key (refused_by r)
ComesTo table most key _ = ⊥

-- what comes of a get: the value, or why it is refused; nothing is accepted
pub record GetOutcome (sap limit : ℕ) (table : List Offer) (most : ℕ) (key : List ℕ) (old : List Received) : Type 1 where
  pub end : Ending
  pub outcome : Outcome sap limit table (ask most key) old end old
  pub comes : ComesTo table most key end

module _ (sap limit : ℕ) (table : List Offer) (most : ℕ) (key : List ℕ) (old : List Received) (small : most < 2 ^ 32) where
  -- a server that only says so
  abbrev says_only : Word → Did
  says_only w = record { session = record fresh_session { due = Tells w ∷ [] }; accepts = None }

  refused : (a : Answer) (r : Refusal) → length (message a []) ≡ 6 → job_told (Sends (Some most) []) (message a [] ∷ []) ≡ Some (Over (Refused r))
      → gets table (four_bytes most ++ key) ≡ Answers a → RefusesGet table most key (refused_by r) → GetOutcome sap limit table most key old
  refused a r six told e why = record {
    end = Refused r;
    outcome = answered limit (ask most key) a (Refused r) old sap six told table old None
        (λ g. ap says_only e) (sym (append-nil old));
    comes = why;
  }

  told_value : (v : List ℕ) → gets table (four_bytes most ++ key) ≡ Offers (message answers.Success v) → value_of key table ≡ Some v → length v ≤ most → GetOutcome sap limit table most key old
  told_value v e there few = record {
    end = Value v;
    outcome = record {
      later = λ size. later limit (length key) most v old size;
      whole = λ miu size. record {
        at = Offering;
        holds = λ k. (k, tt);
        job_is = refl;
        queue_is = refl;
        units_is = refl;
        accepts = None;
        does = λ g. ap says_only e;
        accepted_is = sym (append-nil old);
      };
      converses = λ miu size range fits. value_converses limit (length key) most v old size fits small few sap table miu range;
      within = λ size ph k. k.0;
      adds = λ size ph. refl;
      ends = λ size ph e q. value_ends limit (length key) most v old size ph e q;
    };
    comes = (there, few);
  }

  found : (v : List ℕ) → gets table (four_bytes most ++ key) ≡ got most (Some v) → value_of key table ≡ Some v → (b : Bool) → nat_lt most (length v) ≡ b → GetOutcome sap limit table most key old
  found v e there true h =
      refused answers.Excess refusals.Excess refl refl (e ∙ ap (λ b. if b then Answers answers.Excess else Offers (message answers.Success v)) h) (v, there, ltb-true most (length v) h)
  found v e there false h =
      told_value v (e ∙ ap (λ b. if b then Answers answers.Excess else Offers (message answers.Success v)) h) there (ltb-false most (length v) h)

  by_value : 0 < length table → gets table (four_bytes most ++ key) ≡ got most (value_of key table) → (o : Option (List ℕ)) → value_of key table ≡ o → GetOutcome sap limit table most key old
  by_value some e None h = refused answers.NotFound refusals.NotFound refl refl (e ∙ ap (got most) h) (some, h)
  by_value some e (Some v) h = found v (e ∙ ap (got most) h) h (nat_lt most (length v)) refl

-- by the table
pub get_outcome : (sap limit : ℕ) (table : List Offer) (most : ℕ) (key : List ℕ) (old : List Received) → most < 2 ^ 32 → GetOutcome sap limit table most key old
get_outcome sap limit [] most key old small = refused sap limit [] most key old small answers.NotImplemented refusals.NotImplemented refl refl refl refl
get_outcome sap limit (o ∷ os) most key old small =
    by_value sap limit (o ∷ os) most key old small (omega arith) (ap (λ n. got n (value_of key (o ∷ os))) (number_is most small)) (value_of key (o ∷ os)) refl
